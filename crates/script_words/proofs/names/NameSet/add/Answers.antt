use Rattle.script_words.proofs.NameLemmas.{has_more}
use Rattle.script_words.proofs.names.NameSet.add.Goals as goal

pub returns : goal.returns
returns c = λ known h. record {
  each = has_more c.args.self.now.names c.insert.new.self c.in_ok-name.name known c.args.name.now c.in_ok-name.ensures.ok h.each c.in_ok-insert.ensures.updates;
}
