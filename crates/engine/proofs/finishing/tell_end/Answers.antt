use Rattle.std.proofs.Common.{◌∙◌, arith}
use Rattle.std.proofs.lemmas.List.{drop_all}
use Rattle.feed.specs.Front.{front}
use Rattle.engine.proofs.Advanced.{ends_with, ends_read}
use Rattle.engine.proofs.finishing.tell_end.Goals as goal

pub returns-in-Ok : goal.returns-in-Ok
returns-in-Ok c =
    drop_all 17710 c.args.out.now (omega arith)
    ∙ ends_read c.args.reader.now.offset (front c.args.reader.now.rest.now) c.in-Ok._found c.in-Ok.ensures.told

pub returns-in-Err : goal.returns-in-Err
returns-in-Err c =
    ends_with c.args.reader.now.offset (front c.args.reader.now.rest.now) c.in-Err.fault _ c.offset-offset.result c.offset-offset.ensures c.in-Err.ensures.told c.refuse.ensures.lines
