use Rattle.tg_audit.proofs.tables.tables_of.Goals as goal

pub returns : goal.returns
returns g c = record {
  header = c.requires;
  marks = c.in_ok-marks.ensures;
  entries = c.in_ok-entries.ensures;
  stamps = c.in_ok-stamps.ensures;
  rise = c.rising-rise.ensures;
  stamped = c.in_ok-stamped.ensures;
  bounds = c.in_ok-bounds.ensures;
  asked = c.in_ok-asked.ensures;
  ended = c.in_ok-ended.ensures;
}
