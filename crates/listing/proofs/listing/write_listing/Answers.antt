-- The four chains and the last line, one behind the other (Walks: chains_listed).
use Rattle.listing.specs.meaning.Listing.{ascii}
use Rattle.listing.proofs.Pages.{then_puts, puts_same}
use Rattle.listing.proofs.Walks.{chains_listed}
use Rattle.listing.proofs.listing.write_listing.Goals as goal

pub returns : goal.returns
unfolding ascii
returns c =
    let a = c.args in
    let defs = c.put_chain.ensures in
    let binds = c.put_chain-2.ensures in
    let diags = c.put_chain-3.ensures in
    let post = c.put_chain-4.ensures in
    puts_same (chains_listed a.log.words.now a.log.bytes.now)
    (then_puts (then_puts (then_puts (then_puts defs binds) diags) post) c.put_text.ensures)
