-- By the cases of what was read (Filled).
use Rattle.items.proofs.Filled.{adding_cells, fills_reports, same_fills}
use Rattle.items.proofs.dt_property.Filling.lower_cell.Goals as goal

pub returns-in-Err : goal.returns-in-Err
returns-in-Err c = same_fills c.in-Err.ensures (fills_reports adding_cells c.args.self.keep _ c.emit_report.ensures)
