-- What each chain has.
use Rattle.listing.specs.machine.Chains.{definition_record, binding_record, diagnostic_record}
use Rattle.listing.proofs.listing.write_listing.Given as goal

abbrev pub ghost-put_chain : goal.ghost-put_chain
ghost-put_chain a = definition_record

abbrev pub ghost-put_chain-2 : goal.ghost-put_chain-2
ghost-put_chain-2 a = binding_record

abbrev pub ghost-put_chain-3 : goal.ghost-put_chain-3
ghost-put_chain-3 a = diagnostic_record
