use Rattle.std.proofs.Common.{◌≡◌, ◌+◌, ◌-◌, take, drop, ap, sym, ◌∙◌, arith, length-drop}
use Rattle.std.proofs.lemmas.List.{drop-drop, drop-take, length-take-le}
use Rattle.statement.proofs.window.Window.pass.Goals as goal

pub returns-clause-bytes : goal.returns-clause-bytes
returns-clause-bytes c =
    let buffer = c.args.self.now.buffer.now in
    let start = c.args.self.now.start in
    let end = c.args.self.now.end in
    let bytes = c.args.bytes in
    let left = end - (start + bytes) in
    let behind = length-drop start buffer in
    let long = length-take-le (end - start) (drop start buffer) (omega arith) in
    let whole : bytes + left ≡ end - start = omega (arith, c.requires) in
    ap (take left) (sym (drop-drop bytes start buffer))
    ∙ sym (drop-take bytes left (drop start buffer))
    ∙ ap (λ k. drop bytes (take k (drop start buffer))) whole
