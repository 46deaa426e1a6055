use Rattle.std.proofs.Common.{sym, ◌∙◌, arith, rules}
use Rattle.std.proofs.lemmas.List.{set-get_or}
use Rattle.books.proofs.Changing.{changed_none, changed_more, changed_past, changed_all}
use Rattle.books.proofs.changes.change_rows.Goals.{in-Some, in_default}
use Rattle.books.proofs.changes.change_rows.Goals as goal

pub loop-i-init : goal.loop-i-init
loop-i-init g c becomes answers = sym (changed_none becomes c.args.accounts.now)

pub loop-i-preserved : goal.loop-i-preserved
loop-i-preserved g c becomes answers = elim c.match-get.branch [
  | in-Some w ↦ w.accounts-is ∙ changed_more becomes c.args.accounts.now c.loop-i.accounts c.args.rows.now c.loop-i.i c.index-accounts-i.result w.in-Some.row.now w.change.result (omega arith) (search (rules, arith)) (c.loop-i.invariant becomes answers) (search rules) (answers _ _ _ w.change.ensures)
  | in_default w ↦ w.accounts-is ∙ set-get_or c.loop-i.accounts c.loop-i.i c.index-accounts-i.result ∙ c.loop-i.invariant becomes answers ∙ changed_past becomes c.args.accounts.now c.args.rows.now c.loop-i.i (search (rules, arith))
]

pub returns : goal.returns
returns g c becomes answers =
    c.loop-i.invariant becomes answers
    ∙ changed_all becomes c.args.accounts.now c.args.rows.now c.loop-i.i (omega arith)
