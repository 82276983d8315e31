-- The marks of replies, place by place, and a picture by its parts.
use Rattle.std.specs.Prelude.{◌≡◌, ℕ, suc, ◌+◌, ◌<◌, ◌≤◌, List, [], ◌∷◌, ◌++◌, map, length, drop, slice_get, refl}
use Rattle.std.proofs.Common.{sym, ap, ◌∙◌, get_or, arith, append_assoc}
use Rattle.std.proofs.Math.Seq.{drop-cons}
use Rattle.std.proofs.lemmas.List.{append-nil, drop_all}
use Rattle.tg_base.specs.Clusters.{Header}
use Rattle.tg_base.specs.declared.packet.Packet.{Packet}
use Rattle.tg_picture.specs.Bands.{bands}
use Rattle.tg_picture.specs.Courses.{courses}
use Rattle.tg_picture.specs.Replies.{tellings}
use Rattle.tg_picture.specs.Standings.{decided, gone_below, said, said_of}
use Rattle.tg_picture.specs.declared.fences.Band.{Band}
use Rattle.tg_picture.specs.declared.picture.Picture.{Picture}
use Rattle.tg_picture.specs.declared.picture.Reply.{Reply}
use Rattle.tg_picture.specs.declared.steps.Step.{Step}
use Rattle.tg_picture.specs.declared.telling.Telling.{Telling}
use Rattle.tg_protocol.specs.Layouts.{first_layout}
use Rattle.tg_protocol.specs.Worlds.{trace, log, history}
use Rattle.tg_trace.specs.Transcripts as transcripts
use Rattle.tg_any.specs.AllKinds.{all_kinds}
use Rattle.tg_replay.specs.Runs.{Worlds}
use Rattle.space_time.specs.Cuts.{drawn}
use Rattle.space_time.specs.Pictures.{Says, course_of, mark_of, marks}
use Rattle.space_time.specs.declared.cut.Cut.{Cut}

one_more : (t : Telling) (ts : List Telling) (rs : List transcripts.Reply) → marks (t ∷ ts) rs ≡ mark_of t (slice_get rs t.reply) ++ marks ts rs
unfolding marks
one_more t ts rs = refl

-- a mark is put, and those of the places after it are left
pub marks_next : (found new all : List Reply) (ts : List Telling) (rs : List transcripts.Reply) (i : ℕ) (d : Telling) → i < length ts
    → new ≡ found ++ mark_of (get_or ts i d) (slice_get rs (get_or ts i d).reply) → found ++ marks (drop i ts) rs ≡ all → new ++ marks (drop (i + 1) ts) rs ≡ all
marks_next found new all ts rs i d within put h =
    let t = get_or ts i d in
    let next : i + 1 ≡ suc i = omega arith in
    ap (λ (n : ℕ). new ++ marks (drop n ts) rs) next
    ∙ ap (λ (ms : List Reply). ms ++ marks (drop (suc i) ts) rs) put
    ∙ append_assoc found (mark_of t (slice_get rs t.reply)) (marks (drop (suc i) ts) rs)
    ∙ ap (λ (ms : List Reply). found ++ ms) (sym (one_more t (drop (suc i) ts) rs))
    ∙ ap (λ (us : List Telling). found ++ marks us rs) (sym (drop-cons ts i d within))
    ∙ h

none_more : (rs : List transcripts.Reply) → marks [] rs ≡ []
unfolding marks
none_more rs = refl

-- past the last place nothing is left to be put
pub marks_end : (found all : List Reply) (ts : List Telling) (rs : List transcripts.Reply) (i : ℕ) → length ts ≤ i
    → found ++ marks (drop i ts) rs ≡ all → found ≡ all
marks_end found all ts rs i past h =
    sym (append-nil found) ∙ ap (λ (ms : List Reply). found ++ ms) (sym (ap (λ (us : List Telling). marks us rs) (drop_all i ts past) ∙ none_more rs)) ∙ h

abbrev fences : Header → List Packet → List Step → ℕ → ℕ → List Band
fences h ps ss from upto = bands (first_layout h) h.layouts ps ss from upto

pub says : (h : Header) (w : Worlds) (ss steps : List Step) (c : Cut) (range : ℕ × ℕ) (ps qs us : List Packet) (rs : List transcripts.Reply) (p : Picture)
    → steps ≡ ss → range ≡ drawn c steps → ps ≡ w.packets → qs ≡ w.packets → us ≡ w.packets → rs ≡ trace all_kinds w
    → map course_of p.arrows ≡ courses ps steps range.0 range.1
    → p.replies ≡ marks (tellings steps range.0 range.1) rs
    → p.bands ≡ bands (first_layout h) h.layouts qs steps range.0 range.1
    → map said p.boxes ≡ map (said_of (history all_kinds w) (decided (log all_kinds w)) (gone_below us)) (log all_kinds w)
    → Says h ss c w p
says h w ss steps c range ps qs us rs p same is first second third told arrows replies banded boxes =
    let ends : range ≡ drawn c ss = is ∙ ap (λ (xs : List Step). drawn c xs) same in
    record {
      arrows = arrows ∙ (λ i. courses (first i) (same i) (ends i).0 (ends i).1);
      replies = replies ∙ (λ i. marks (tellings (same i) (ends i).0 (ends i).1) (told i));
      bands = banded ∙ (λ i. fences h (second i) (same i) (ends i).0 (ends i).1);
      boxes = boxes ∙ ap (λ (xs : List Packet). map (said_of (history all_kinds w) (decided (log all_kinds w)) (gone_below xs)) (log all_kinds w)) third;
    }
