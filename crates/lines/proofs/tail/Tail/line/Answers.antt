use Rattle.std.proofs.Common.{sym, subst, ap, w64, SFits, rules}
use Rattle.std.proofs.lemmas.Int.{to_z-of_z}
use Rattle.lines.specs.Tails.{Grown}
use Rattle.lines.specs.Texts.{amount_text, text}
use Rattle.lines.proofs.Puts.{grown_same, less_none}
use Rattle.lines.proofs.tail.Tail.line.Goals as goal

pub returns-in-Paid : goal.returns-in-Paid
returns-in-Paid c =
    let fits : SFits w64 c.in-Paid.cents = search rules in
    let grown = simp to_z-of_z at c.amount.ensures.grown in
    record {
      grown = subst (λ l. Grown (text l) c.args.self.now c.amount.new.self) (sym c.in-Paid.is)
          (grown_same _ _ _ _ (ap (amount_text 80 c.in-Paid.hour c.in-Paid.supplier) (less_none c.in-Paid.cents)) grown);
      short = c.amount.ensures.short;
    }

pub returns-in-Charged : goal.returns-in-Charged
returns-in-Charged c =
    let fits : SFits w64 c.in-Charged.cents = search rules in
    let grown = simp to_z-of_z at c.amount-in-Charged.ensures.grown in
    record {
      grown = subst (λ l. Grown (text l) c.args.self.now c.amount-in-Charged.new.self) (sym c.in-Charged.is)
          (grown_same _ _ _ _ (ap (amount_text 67 c.in-Charged.hour c.in-Charged.customer) (less_none c.in-Charged.cents)) grown);
      short = c.amount-in-Charged.ensures.short;
    }
