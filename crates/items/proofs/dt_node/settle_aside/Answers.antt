-- As an extension (LeavesKept).
use Rattle.items.proofs.dt_node.settle_aside.Goals as goal

pub returns : goal.returns
returns c = (rw (
  c.phandle_label_at.ensures,
  c.phandle_path_at.ensures,
  c.span_at-span.ensures,
  c.span_at-name_span.ensures,
) at
    c.leave_kept.ensures)
