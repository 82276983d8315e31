-- Worked runs, of each step and each line of which what is claimed is proved.
use Rattle.tg_protocol.specs.Worlds.{start}
use Rattle.tg_law_examples.proofs.SevenKinds.{kinds}
use Rattle.tg_law_examples.proofs.Farther.{past_answers_header, past_answers_script, past_trimmed_header, past_trimmed_script, rescue_by_part_header, rescue_by_part_script, rescue_and_trim_header, rescue_and_trim_script, open_record_header, open_record_script}
use Rattle.tg_law_examples.proofs.Fenced.{fenced_trim_header, fenced_trim_script}
use Rattle.tg_law_examples.proofs.First.{crossed_reads_header, crossed_reads_script, orphan_decided_header, orphan_decided_script, unsure_then_fate_header, unsure_then_fate_script, refusals_header, refusals_script, full_log_header, full_log_script}
use Rattle.tg_law_examples.proofs.Moves.{new_sequencer_header, new_sequencer_script, carried_by_scan_header, carried_by_scan_script, unit_joins_header, unit_joins_script, overtaken_and_refused_header, overtaken_and_refused_script, checkpoints_and_trim_header, checkpoints_and_trim_script}
use Rattle.tg_law_examples.proofs.PlayingOn.{view_plays_on_header, view_plays_on_script}
use Rattle.tg_law_instances.proofs.RunSound.{LinesHold, run_sound}
use Rattle.tg_law_instances.proofs.Running.{holds_of_crossed_reads, holds_of_orphan_decided, holds_of_unsure_then_fate, holds_of_refusals, holds_of_full_log, holds_of_new_sequencer, holds_of_carried_by_scan, holds_of_unit_joins, holds_of_overtaken_and_refused, holds_of_checkpoints_and_trim, holds_of_past_answers, holds_of_past_trimmed, holds_of_rescue_by_part, holds_of_rescue_and_trim, holds_of_open_record, holds_of_view_plays_on, holds_of_fenced_trim}

pub crossed_reads_steps : LinesHold crossed_reads_script (start kinds crossed_reads_header)
crossed_reads_steps = run_sound 1 crossed_reads_script (start kinds crossed_reads_header) holds_of_crossed_reads

pub orphan_decided_steps : LinesHold orphan_decided_script (start kinds orphan_decided_header)
orphan_decided_steps = run_sound 1 orphan_decided_script (start kinds orphan_decided_header) holds_of_orphan_decided

pub unsure_then_fate_steps : LinesHold unsure_then_fate_script (start kinds unsure_then_fate_header)
unsure_then_fate_steps = run_sound 1 unsure_then_fate_script (start kinds unsure_then_fate_header) holds_of_unsure_then_fate

pub refusals_steps : LinesHold refusals_script (start kinds refusals_header)
refusals_steps = run_sound 1 refusals_script (start kinds refusals_header) holds_of_refusals

pub full_log_steps : LinesHold full_log_script (start kinds full_log_header)
full_log_steps = run_sound 1 full_log_script (start kinds full_log_header) holds_of_full_log

pub new_sequencer_steps : LinesHold new_sequencer_script (start kinds new_sequencer_header)
new_sequencer_steps = run_sound 1 new_sequencer_script (start kinds new_sequencer_header) holds_of_new_sequencer

pub carried_by_scan_steps : LinesHold carried_by_scan_script (start kinds carried_by_scan_header)
carried_by_scan_steps = run_sound 1 carried_by_scan_script (start kinds carried_by_scan_header) holds_of_carried_by_scan

pub unit_joins_steps : LinesHold unit_joins_script (start kinds unit_joins_header)
unit_joins_steps = run_sound 1 unit_joins_script (start kinds unit_joins_header) holds_of_unit_joins

pub overtaken_and_refused_steps : LinesHold overtaken_and_refused_script (start kinds overtaken_and_refused_header)
overtaken_and_refused_steps = run_sound 1 overtaken_and_refused_script (start kinds overtaken_and_refused_header) holds_of_overtaken_and_refused

pub checkpoints_and_trim_steps : LinesHold checkpoints_and_trim_script (start kinds checkpoints_and_trim_header)
checkpoints_and_trim_steps = run_sound 1 checkpoints_and_trim_script (start kinds checkpoints_and_trim_header) holds_of_checkpoints_and_trim

pub past_answers_steps : LinesHold past_answers_script (start kinds past_answers_header)
past_answers_steps = run_sound 1 past_answers_script (start kinds past_answers_header) holds_of_past_answers

pub past_trimmed_steps : LinesHold past_trimmed_script (start kinds past_trimmed_header)
past_trimmed_steps = run_sound 1 past_trimmed_script (start kinds past_trimmed_header) holds_of_past_trimmed

pub rescue_by_part_steps : LinesHold rescue_by_part_script (start kinds rescue_by_part_header)
rescue_by_part_steps = run_sound 1 rescue_by_part_script (start kinds rescue_by_part_header) holds_of_rescue_by_part

pub rescue_and_trim_steps : LinesHold rescue_and_trim_script (start kinds rescue_and_trim_header)
rescue_and_trim_steps = run_sound 1 rescue_and_trim_script (start kinds rescue_and_trim_header) holds_of_rescue_and_trim

pub open_record_steps : LinesHold open_record_script (start kinds open_record_header)
open_record_steps = run_sound 1 open_record_script (start kinds open_record_header) holds_of_open_record

pub view_plays_on_steps : LinesHold view_plays_on_script (start kinds view_plays_on_header)
view_plays_on_steps = run_sound 1 view_plays_on_script (start kinds view_plays_on_header) holds_of_view_plays_on

pub fenced_trim_steps : LinesHold fenced_trim_script (start kinds fenced_trim_header)
fenced_trim_steps = run_sound 1 fenced_trim_script (start kinds fenced_trim_header) holds_of_fenced_trim
