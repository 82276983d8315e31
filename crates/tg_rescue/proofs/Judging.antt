-- What a view tells of a record is what the definitions' turn tells.
use Rattle.std.specs.Prelude.{◌≡◌, ℕ, Bool, cond, not, ◌&&◌, List, Option, Some, None, is_some, refl}
use Rattle.std.proofs.Common.{sym, ap, ◌∙◌}
use Rattle.tg_base.specs.declared.ids.Oid.{Oid}
use Rattle.tg_entry.specs.declared.entry.Entry.{Entry}
use Rattle.tg_kind.specs.Meaning.{Meaning}
use Rattle.tg_model.specs.declared.play.PlayEnd.{PlayEnd}
use Rattle.tg_model.specs.declared.play.PlayEnd.TheVariants.{Played, Blocked}
use Rattle.tg_protocol.specs.Words.{has_oid}
use Rattle.tg_entry.specs.Needs.{needs_decision}
use Rattle.tg_protocol.specs.Views.{Entries, decision_in, Verdict, Commits, Aborts, Unknown, View, Play, view_outcome}
use Rattle.tg_protocol.specs.Past.{RescueTurn, Absent, StuckAt, commit_at, record_block, entry_block, block_in, known_by, at_record, grows, rescue_by, rescue_played}
use Rattle.tg_rescue.specs.Answers.{stuck_or_absent, by_block, judged_by}

module _ (m : Meaning) where
  -- the definitions' turn, by the record that is there
  abbrev turn_by : View m → Entries → List Oid → ℕ → Option (ℕ × Oid) → Option Entry → RescueTurn m
  turn_by v es oids at None r = at_record m v es at None r
  turn_by v es oids at (Some b) r = cond (has_oid b.1 oids) (at_record m v es at (Some b) r) (grows m oids b.1)

  stuck_is : (v : View m) (es : Entries) (at : ℕ) (b : ℕ × Oid) (r : Option Entry) → stuck_or_absent m r b.0 b.1 ≡ at_record m v es at (Some b) r
  stuck_is v es at b None = refl
  stuck_is v es at b (Some e) = refl

  block_is : (v : View m) (es : Entries) (oids : List Oid) (at pos : ℕ) (o : Oid) (r : Option Entry) → by_block m r oids pos o ≡ turn_by v es oids at (Some (pos, o)) r
  block_is v es oids at pos o r = ap (λ (t : RescueTurn m). cond (has_oid o oids) t (grows m oids o)) (stuck_is v es at (pos, o) r)

  played_is : (p : Play m) (es : Entries) (oids : List Oid) (at : ℕ) (b : Option (ℕ × Oid)) → rescue_by m p es oids at b ≡ turn_by p.view es oids at b (commit_at es at)
  played_is p es oids at None = refl
  played_is p es oids at (Some b) = refl

  -- a play that is blocked
  pub blocked_turn : (p : Play m) (es : Entries) (oids : List Oid) (at pos : ℕ) (o : Oid) (r : Option Entry) → r ≡ commit_at es at → Blocked pos o ≡ p.came → by_block m r oids pos o ≡ rescue_played m p es oids at
  blocked_turn p es oids at pos o r is came =
      block_is p.view es oids at pos o r
      ∙ ap (λ (x : Option Entry). turn_by p.view es oids at (Some (pos, o)) x) is
      ∙ sym (played_is p es oids at (Some (pos, o)))
      ∙ ap (λ (c : PlayEnd). rescue_by m p es oids at (block_in m p es at c)) came

  abbrev by_entry : View m → Entries → List Oid → ℕ → Option Entry → RescueTurn m
  by_entry v es oids at r = turn_by v es oids at (entry_block m v es at r) r

  entry_is : (p : Play m) (es : Entries) (oids : List Oid) (at upto : ℕ) (r : Option Entry) → r ≡ commit_at es at → p.came ≡ Played upto → by_entry p.view es oids at r ≡ rescue_played m p es oids at
  entry_is p es oids at upto r is came =
      ap (λ (x : Option Entry). by_entry p.view es oids at x) is
      ∙ sym (played_is p es oids at (block_in m p es at (Played upto)))
      ∙ ap (λ (c : PlayEnd). rescue_by m p es oids at (block_in m p es at c)) (sym came)

  -- no record is there
  pub absent_turn : (p : Play m) (es : Entries) (oids : List Oid) (at upto : ℕ) → None ≡ commit_at es at → p.came ≡ Played upto → ◌≡◌ {A = RescueTurn m} Absent (rescue_played m p es oids at)
  absent_turn p es oids at upto is came = entry_is p es oids at upto None is came

  -- a record is there

  abbrev pub needs_now : Entries → ℕ → Entry → Bool
  needs_now es at e = needs_decision e && not (is_some (decision_in es at))

  abbrev by_both : View m → Entries → List Oid → ℕ → Entry → Verdict → Verdict → RescueTurn m
  by_both v es oids at e d Commits = known_by m es at e d
  by_both v es oids at e d Aborts = known_by m es at e d
  by_both v es oids at e d (Unknown o) = cond (has_oid o oids) (StuckAt at o) (grows m oids o)

  both_is : (v : View m) (es : Entries) (oids : List Oid) (at : ℕ) (e : Entry) (d : Verdict) → by_both v es oids at e d d ≡ judged_by m d e oids at (needs_now es at e)
  both_is v es oids at e Commits = refl
  both_is v es oids at e Aborts = refl
  both_is v es oids at e (Unknown o) = refl

  split_is : (v : View m) (es : Entries) (oids : List Oid) (at : ℕ) (e : Entry) (d : Verdict) → turn_by v es oids at (record_block m v es at d) (Some e) ≡ by_both v es oids at e (view_outcome m v es at e) d
  split_is v es oids at e Commits = refl
  split_is v es oids at e Aborts = refl
  split_is v es oids at e (Unknown o) = refl

  some_entry : (v : View m) (es : Entries) (oids : List Oid) (at : ℕ) (e : Entry) → by_entry v es oids at (Some e) ≡ judged_by m (view_outcome m v es at e) e oids at (needs_now es at e)
  some_entry v es oids at e = split_is v es oids at e (view_outcome m v es at e) ∙ both_is v es oids at e (view_outcome m v es at e)

  pub judged_turn : (p : Play m) (es : Entries) (oids : List Oid) (at upto : ℕ) (e : Entry) (needs : Bool) (d : Verdict) → Some e ≡ commit_at es at → p.came ≡ Played upto → d ≡ view_outcome m p.view es at e → needs ≡ needs_now es at e
      → judged_by m d e oids at needs ≡ rescue_played m p es oids at
  judged_turn p es oids at upto e needs d is came told same =
      (λ i. judged_by m (told i) e oids at (same i))
      ∙ sym (some_entry p.view es oids at e)
      ∙ entry_is p es oids at upto (Some e) is came
