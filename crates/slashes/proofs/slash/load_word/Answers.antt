use Rattle.slashes.proofs.Loads.{loaded}
use Rattle.slashes.proofs.slash.load_word.Goals as goal

pub returns : goal.returns
returns c = loaded c.args.bytes.now _ c.told-bytes c.fits-bytes c.from_le_bytes.ensures
