-- The newest definition's place, and its labels (Opened).
use Rattle.items.proofs.Opened.{node_opens}
use Rattle.items.proofs.open_node.open_node.Goals as goal

pub returns : goal.returns
returns c = node_opens c.newest_path-place.ensures
    c.collect_labels-labelled.ensures
