use Rattle.std.proofs.Common.{◌≡◌, ◌∙◌, ℕ, List, ◌++◌, ap}
use Rattle.tg_replay.specs.Runs.{transcript}
use Rattle.tg_script.specs.Headers.{header_lines, lines_text}
use Rattle.tg_live.proofs.Printing.{word, printed_text}
use Rattle.tg_live.proofs.live.Live.text.Goals as goal

pub returns : goal.returns
returns c = λ h first now l k.
    let cluster = c.args.self.now.cluster in
    let told : c.as_slice-2.result.now ≡ transcript cluster l.world = c.as_slice-2.ensures ∙ c.in_ok-transcript.ensures l.world k.world in
    let header : c.print_header.new.out ≡ lines_text (header_lines cluster) = c.in_ok-print_header.ensures.ok ∙ ap (λ (t : List ℕ). t ++ lines_text (header_lines cluster)) c.new-text.ensures in
    let recorded : c.extend.new.self ≡ lines_text (header_lines cluster) ++ c.args.self.now.recording =
    c.in_ok-extend.ensures.ok ∙ ap (λ (t : List ℕ). t ++ c.as_slice.result.now) header ∙ ap (λ (t : List ℕ). lines_text (header_lines cluster) ++ t) c.as_slice.ensures in
    let parted : c.extend-2.new.self ≡ (lines_text (header_lines cluster) ++ c.args.self.now.recording) ++ word = c.in_ok-extend-2.ensures.ok ∙ ap (λ (t : List ℕ). t ++ word) recorded in
    c.in_ok-extend-3.ensures.ok ∙ ap (λ (t : List ℕ). t ++ c.as_slice-2.result.now) parted ∙ printed_text h first now c.args.self.now l k c.as_slice-2.result.now told
