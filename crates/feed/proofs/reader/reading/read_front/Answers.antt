use Rattle.std.proofs.Common.{ap, ◌∙◌, rules}
use Rattle.std.proofs.lemmas.List.{take_rest, length-drop}
use Rattle.feed.specs.Reading.{long_answer}
use Rattle.feed.proofs.Fronts.{front_headed}
use Rattle.feed.proofs.reader.reading.read_front.Goals as goal

pub returns : goal.returns
returns c = record {
  told =
      c.read_sized.ensures.told
      ∙ ap (long_answer c.args.offset) (front_headed c.args.bytes.now _ _ _ _ (search rules) c.in-Some.ensures (search rules) (search rules) (take_rest c.args.bytes.now 5));
  within = search (rules, take_rest, length-drop);
}
