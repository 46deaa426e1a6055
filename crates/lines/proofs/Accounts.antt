-- The lines of accounts, one after another.
use Rattle.std.proofs.Common.{◌≡◌, ℕ, suc, ◌-◌, min, List, [], ◌∷◌, ◌++◌, length, take, ℤ, ◌-ℤ◌, sym, refl, ap, subst, ◌∙◌, append_assoc, append-nil, arith}
use Rattle.sums.specs.Sums.{each}
use Rattle.accounts.specs.declared.supplier.Supplier.{Supplier}
use Rattle.accounts.specs.declared.customer.Customer.{Customer}
use Rattle.lines.specs.declared.line.Line.{Line}
use Rattle.lines.specs.declared.line.Line.TheVariants.{Paid, Charged, Carried}
use Rattle.lines.specs.Texts.{amount_text, text, texts}
use Rattle.lines.specs.Closings.{account_texts, closing_lines}

module _ {A : Type 0} (number : A → ℕ) (money : A → ℤ) (letter hour : ℕ) where
  -- the shorter list says how many lines there are
  pub texts_taken : (bs : List ℤ) (xs : List A) (n : ℕ) → n ≡ min (length xs) (length bs)
      → account_texts number money letter hour (take n bs) (take n xs) ≡ account_texts number money letter hour bs xs
  texts_taken [] xs n e =
      let none : 0 ≡ n = omega arith in
      subst (λ k. account_texts number money letter hour (take k []) (take k xs) ≡ []) none refl
  texts_taken (b ∷ bs) [] n e =
      let none : 0 ≡ n = omega arith in
      subst (λ k. account_texts number money letter hour (take k (b ∷ bs)) (take k []) ≡ []) none refl
  texts_taken (b ∷ bs) (a ∷ xs) n e =
      let some : suc (n - 1) ≡ n = omega arith in
      subst (λ k. account_texts number money letter hour (take k (b ∷ bs)) (take k (a ∷ xs)) ≡ account_texts number money letter hour (b ∷ bs) (a ∷ xs)) some
      (ap (λ t. amount_text letter hour (number a) (money a -ℤ b) ++ t) (texts_taken bs xs (n - 1) (omega arith)))

  -- the last account's line comes after those before it
  pub texts_last : (bs : List ℤ) (b : ℤ) (xs : List A) (a : A) → length xs ≡ length bs
      → account_texts number money letter hour (bs ++ (b ∷ [])) (xs ++ (a ∷ []))
      ≡ account_texts number money letter hour bs xs ++ amount_text letter hour (number a) (money a -ℤ b)
  texts_last [] b [] a e = append-nil (amount_text letter hour (number a) (money a -ℤ b))
  texts_last [] b (x ∷ xs) a e = absurd (omega arith)
  texts_last (y ∷ bs) b [] a e = absurd (omega arith)
  texts_last (y ∷ bs) b (x ∷ xs) a e =
      ap (λ t. amount_text letter hour (number x) (money x -ℤ y) ++ t) (texts_last bs b xs a (omega arith))
      ∙ sym (append_assoc (amount_text letter hour (number x) (money x -ℤ y)) (account_texts number money letter hour bs xs) _)

  -- one line more stands: of the last account of those left, whose number is n and whose money is z
  pub told_more : (xs rest : List A) (a : A) (bs noted : List ℤ) (b : ℤ) (told whole : List ℕ) → xs ≡ rest ++ (a ∷ []) → bs ≡ noted ++ (b ∷ []) → length rest ≡ length noted
      → (n : ℕ) → n ≡ number a → (z : ℤ) → z ≡ money a
      → account_texts number money letter hour bs xs ++ told ≡ whole
      → account_texts number money letter hour noted rest ++ (amount_text letter hour n (z -ℤ b) ++ told) ≡ whole
  told_more xs rest a bs noted b told whole left before long n en z ez e =
      ap (λ k. account_texts number money letter hour noted rest ++ (amount_text letter hour k (z -ℤ b) ++ told)) en
      ∙ ap (λ y. account_texts number money letter hour noted rest ++ (amount_text letter hour (number a) (y -ℤ b) ++ told)) ez
      ∙ sym (append_assoc (account_texts number money letter hour noted rest) (amount_text letter hour (number a) (money a -ℤ b)) told)
      ∙ ap (λ t. t ++ told) (sym (texts_last noted b rest a long))
      ∙ ap (λ l. account_texts number money letter hour l (rest ++ (a ∷ [])) ++ told) (sym before)
      ∙ ap (λ l. account_texts number money letter hour bs l ++ told) (sym left)
      ∙ e

  -- the same lines, of a kind that begins with the letter
  pub kind_texts : (line : ℕ → ℤ → Line) → ((n : ℕ) (z : ℤ) → text (line n z) ≡ amount_text letter hour n z) → (bs : List ℤ) (xs : List A)
      → texts (each (λ old a. line (number a) (money a -ℤ old)) bs xs) ≡ account_texts number money letter hour bs xs
  kind_texts line reads [] xs = refl
  kind_texts line reads (b ∷ bs) [] = refl
  kind_texts line reads (b ∷ bs) (x ∷ xs) =
      ap (λ t. t ++ texts (each (λ old a. line (number a) (money a -ℤ old)) bs xs)) (reads (number x) (money x -ℤ b))
      ∙ ap (λ t. amount_text letter hour (number x) (money x -ℤ b) ++ t) (kind_texts line reads bs xs)

pub texts_append : (xs ys : List Line) → texts (xs ++ ys) ≡ texts xs ++ texts ys
texts_append [] ys = refl
texts_append (x ∷ xs) ys = ap (λ t. text x ++ t) (texts_append xs ys) ∙ sym (append_assoc (text x) (texts xs) (texts ys))

pub closing_texts : (hour : ℕ) (paid : List ℤ) (suppliers : List Supplier) (charged : List ℤ) (customers : List Customer) (carry : ℤ)
    → texts (closing_lines hour paid suppliers charged customers carry)
    ≡ account_texts (λ a. a.number) (λ a. a.cents) 80 hour paid suppliers ++ (account_texts (λ a. a.number) (λ a. a.cents) 67 hour charged customers ++ text (Carried hour carry))
closing_texts hour paid suppliers charged customers carry =
    texts_append (each (λ old a. Paid hour a.number (a.cents -ℤ old)) paid suppliers) _
    ∙ ap (λ t. t ++ texts (each (λ old a. Charged hour a.number (a.cents -ℤ old)) charged customers ++ (Carried hour carry ∷ []))) (kind_texts {A = Supplier} (λ a. a.number) (λ a. a.cents) 80 hour (λ n z. Paid hour n z) (λ n z. refl) paid suppliers)
    ∙ ap (λ t. account_texts (λ a. a.number) (λ a. a.cents) 80 hour paid suppliers ++ t)
    (texts_append (each (λ old a. Charged hour a.number (a.cents -ℤ old)) charged customers) _
    ∙ ap (λ t. t ++ (text (Carried hour carry) ++ [])) (kind_texts {A = Customer} (λ a. a.number) (λ a. a.cents) 67 hour (λ n z. Charged hour n z) (λ n z. refl) charged customers)
    ∙ ap (λ t. account_texts (λ a. a.number) (λ a. a.cents) 67 hour charged customers ++ t) (append-nil (text (Carried hour carry))))
