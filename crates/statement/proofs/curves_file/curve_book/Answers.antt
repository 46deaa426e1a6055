use Rattle.std.proofs.lemmas.Result.{err_from_is_err_and}
use Rattle.statement.proofs.Refused.{file_refused}
use Rattle.statement.proofs.curves_file.curve_book.Goals as goal

pub returns-in_err-read_curve_book-clause-reply : goal.returns-in_err-read_curve_book-clause-reply
returns-in_err-read_curve_book-clause-reply c =
    let p = err_from_is_err_and c.from_residual.result c.from_residual.ensures.1 in
    rw (p.1, p.2) (file_refused c.args.bytes.now _ c.in_err-read_curve_book.ensures.reply)
