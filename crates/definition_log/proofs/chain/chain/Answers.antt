use mathlib.Core.Path.{refl}
use Rattle.definition_log.specs.meaning.ReadBack.{chain_of}
use Rattle.definition_log.proofs.chain.chain.Goals as goal

pub returns : goal.returns
unfolding chain_of
returns c = rw c.new.ensures refl
