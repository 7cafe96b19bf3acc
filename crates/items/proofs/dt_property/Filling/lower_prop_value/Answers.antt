-- By the cases of what was read (Filled).
use Rattle.items.proofs.Filled.{adding_values, fills_reports, same_fills}
use Rattle.items.proofs.dt_property.Filling.lower_prop_value.Goals as goal

pub returns-in-Err : goal.returns-in-Err
returns-in-Err c = let a = c.args in
    same_fills (c.in-Err.ensures a.self.level) (fills_reports adding_values a.self.keep _ c.emit_report.ensures)
