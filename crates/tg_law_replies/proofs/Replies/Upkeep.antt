-- What a client makes of checkpoints, marks and rescues, once it has played.
use Rattle.std.proofs.Common.{◌≡◌, ℕ, ◌+◌, List, Bool, true, false, refl, sym, ap, ◌∙◌, subst, inl, inr, arith, Option, Some, None}
use Rattle.std.specs.Prelude.{nat_le, not, is_some, length, if◌then◌else◌, ◌&&◌}
use Rattle.tg_base.specs.declared.ids.Oid.{Oid}
use Rattle.tg_base.specs.declared.marks.Part.{Part}
use Rattle.tg_base.specs.declared.marks.Part.TheVariants.{All}
use Rattle.tg_entry.specs.declared.entry.Body.TheVariants.{Checkpoint}
use Rattle.tg_entry.specs.declared.entry.Entry.{Entry}
use Rattle.tg_kind.specs.Meaning.{Meaning}
use Rattle.tg_model.specs.declared.play.PlayEnd.{PlayEnd}
use Rattle.tg_model.specs.declared.play.PlayEnd.TheVariants.{Played, Blocked}
use Rattle.tg_model.specs.Kinds.{NoteOf}
use Rattle.tg_protocol.specs.Words.{has_oid}
use Rattle.tg_base.specs.Orders.{oid_eq}
use Rattle.tg_entry.specs.Needs.{needs_decision}
use Rattle.tg_protocol.specs.Versions.{based, version_in, version_of}
use Rattle.tg_protocol.specs.Views.{Entries, decision_in, Verdict, Commits, Aborts, Unknown, Base, View, state_of, view_outcome, view_version, view_parts}
use Rattle.tg_protocol.specs.Checkpoints.{TrimPoints, base_at, base_in, loaded, saved_bytes, checkpoint}
use Rattle.tg_protocol.specs.Past.{commit_at, RescueTurn, Wider, Wide, Known, block_in, known_by, at_record, grows, rescue_by, rescue_turn}
use Rattle.tg_protocol.specs.Syncing.{sync_start}
use Rattle.tg_protocol.specs.Transactions.{Tx}
use Rattle.tg_protocol.specs.Appending.{append_start}
use Rattle.tg_protocol.specs.Clients.{Marks, Work, Client}
use Rattle.tg_protocol.specs.Answers.{Moved, appends, syncs, mark_record, mark_notes}
use Rattle.tg_law_replies.specs.Plays.Sound.{IsRising, IsBase}
use Rattle.tg_law_replies.specs.History.Logs.{state_below, version_below, AreListed, HasOutcome}
use Rattle.tg_law_replies.proofs.History.Members.{has_contained, contained_has, same_oid, oid_itself}
use Rattle.tg_law_replies.proofs.History.Ledger.{one_entry}
use Rattle.tg_law_replies.specs.Views.Views.{IsTrueBase}
use Rattle.tg_law_replies.specs.Views.Looking.{IsSaver, rescuing, IsRescuer}
use Rattle.tg_law_replies.specs.Views.Exact.{DecisionStands, IsRecorded}
use Rattle.tg_law_replies.proofs.Views.Records.{decision_there, commit_there}
use Rattle.tg_law_replies.proofs.Views.Saved.{saves_true}
use Rattle.tg_law_replies.proofs.Views.Saves.{saves_lawful}
use Rattle.tg_law_replies.proofs.Views.Plays.{max_left}
use Rattle.tg_law_replies.proofs.Replies.Moves.{InStep, IsRightMove, TrueWhat, TrueNotes, TrueBody, TrueHand, one_work, no_base, outcome_right}

module _ (m : Meaning) (objects : List Oid) (es : Entries) (rising : IsRising es) (listed : AreListed es) (tx0 : Option Tx) (n0 : ℕ) where
  abbrev Held : Client m → Type 0
  Held c = InStep m objects es rising listed tx0 n0 c

  abbrev RightMove : Moved m → Type 0
  RightMove x = IsRightMove m objects es rising listed tx0 n0 x

  -- Checkpoints.

  saved_of : (p o : Oid) (b : Base m) (v : View m) (t client number : ℕ) → base_at m p (checkpoint m v o t client number) ≡ Some b → p ≡ o
  unfolding checkpoint
  saved_of p o b v t client number is = by (oid_eq p o) refl (nat_le (view_version m v o All) t) is
    where
      by : (x : Bool) → oid_eq p o ≡ x → (y : Bool)
          → (if x && y then loaded m p t (based p (view_version m v o All) (view_parts m v o).whole (view_parts m v o).keys) (m.load p (saved_bytes m (state_of m v o))) else None) ≡ Some b → p ≡ o
      by true e y k = same_oid p o e
      by false e y k = absurd (no_base m objects es rising listed b k)

  -- the base that a checkpoint gives has the versions that it tells

  told_versions : (o : Oid) (v whole : ℕ) (keys : List (Part × ℕ)) (k : Part) → version_of (based o v whole keys) o k ≡ version_in (record { oid = o; version = v; whole = whole; keys = keys }) k
  unfolding version_of based
  told_versions o v whole keys k = ap (λ (b : Bool). if b then version_in (record { oid = o; version = v; whole = whole; keys = keys }) k else 0) (oid_itself o)

  loads_versions : (o : Oid) (t v whole : ℕ) (keys : List (Part × ℕ)) (bytes : List ℕ) (c : Base m) (k : Part) → base_in m o (Checkpoint o t v whole keys bytes) ≡ Some c
      → version_of c.versions o k ≡ version_in (record { oid = o; version = v; whole = whole; keys = keys }) k
  loads_versions o t v whole keys bytes c k is = by (oid_eq o o && nat_le v t) is
    where
      one : (x y : Base m) → Some x ≡ Some y → x ≡ y
      one x y e = cc

      of_state : (s : Option m.state) → loaded m o t (based o v whole keys) s ≡ Some c → version_of c.versions o k ≡ version_in (record { oid = o; version = v; whole = whole; keys = keys }) k
      of_state None e = absurd (no_base m objects es rising listed c e)
      of_state (Some s) e =
          ap (λ (x : Base m). version_of x.versions o k) (sym (one (record { oid = o; state = s; versions = based o v whole keys; upto = t }) c e)) ∙ told_versions o v whole keys k

      by : (b : Bool) → (if b then loaded m o t (based o v whole keys) (m.load o bytes) else None) ≡ Some c → version_of c.versions o k ≡ version_in (record { oid = o; version = v; whole = whole; keys = keys }) k
      by true e = of_state (m.load o bytes) e
      by false e = absurd (no_base m objects es rising listed c e)

  made_base : (v : View m) (o : Oid) (t client number : ℕ) → IsSaver m objects es v o t → (c : Base m) × (base_at m o (checkpoint m v o v.upto client number) ≡ Some c) × (c.upto ≡ v.upto) × IsTrueBase m objects es o c
  made_base v o t client number h =
      saves_true m objects es v o h.base client number rising h.sound h.so h.hosted (let low = h.low in let at = h.stands in omega (arith, low, at))
      (subst (λ (n : ℕ). m.load o (m.save (state_below m objects es n o)) ≡ Some (state_below m objects es n o)) (sym h.stands) h.loads)

  body_there : (v : View m) (o : Oid) (t client number : ℕ) → IsSaver m objects es v o t → TrueBody m objects es rising listed (checkpoint m v o v.upto client number).body
  unfolding checkpoint
  body_there v o t client number h =
      let k = h.so.told o h.base h.hosted in
      let low = h.low in let at = h.stands in
      let far = max_left v.upto h.base.upto (omega (arith, low, at)) in
      let c = made_base v o t client number h in
      record {
        saved = ap (λ (s : Option m.state). saved_bytes m s) (k.state ∙ ap (λ (n : ℕ). Some (state_below m objects es n o)) far);
        version_all = k.versions All ∙ ap (λ (n : ℕ). version_below m objects es n o All) far;
        parts = λ j. ap (λ (n : ℕ). version_below m objects es n o j) (sym c.2)
            ∙ (sym (c.3.versions j) ∙ loads_versions o v.upto (view_version m v o All) (view_parts m v o).whole (view_parts m v o).keys (saved_bytes m (state_of m v o)) c.0 j c.1);
      }

  pub saves_body : (v : View m) (o : Oid) (t client number : ℕ) → IsSaver m objects es v o t → TrueBody m objects es rising listed (checkpoint m v o t client number).body
  saves_body v o t client number h = subst (λ (n : ℕ). TrueBody m objects es rising listed (checkpoint m v o n client number).body) h.stands (body_there v o t client number h)

  pub saves_draft : (v : View m) (o : Oid) (t client number : ℕ) → IsSaver m objects es v o t → (p : Oid) (b : Base m) → base_at m p (checkpoint m v o t client number) ≡ Some b → IsTrueBase m objects es p b × IsBase m b
  saves_draft v o t client number h p b is = (
    subst (λ (y : Oid). IsTrueBase m objects es y b) (sym same)
        (subst (λ (x : Base m). IsTrueBase m objects es o x) (one made.0 b (sym made.1 ∙ (ap (λ (n : ℕ). base_at m o (checkpoint m v o n client number)) h.stands ∙ (ap (λ (y : Oid). base_at m y (checkpoint m v o t client number)) (sym same) ∙ is)))) made.3),
    saves_lawful m v o h.base b t client number h.sound h.hosted (ap (λ (y : Oid). base_at m y (checkpoint m v o t client number)) (sym same) ∙ is),
  )
    where
      one : (x y : Base m) → Some x ≡ Some y → x ≡ y
      one x y e = cc

      same : p ≡ o
      same = saved_of p o b v t client number is

      made : (c : Base m) × (base_at m o (checkpoint m v o v.upto client number) ≡ Some c) × (c.upto ≡ v.upto) × IsTrueBase m objects es o c
      made =
          saves_true m objects es v o h.base client number rising h.sound h.so h.hosted (let low = h.low in let at = h.stands in omega (arith, low, at))
          (subst (λ (n : ℕ). m.load o (m.save (state_below m objects es n o)) ≡ Some (state_below m objects es n o)) (sym h.stands) h.loads)

  -- Syncs and marks.

  pub syncs_right : (c : Client m) (w : Work m) (os : List Oid) → Held c → RightMove (syncs m c w os)
  unfolding syncs sync_start
  syncs_right c w os h = (record { view = h.right.view; dir = h.right.dir; work = λ x is. subst (λ (y : Work m). TrueHand m objects es rising listed y.hand) (one_work m objects es rising listed _ x is) tt }, λ n i. absurd i, inl (record { tx = h.tx; begun = h.begun; plain = λ n i. absurd i }))

  marks_said : (x : ℕ) (o : Oid) (n : ℕ) → TrueNotes m objects es rising listed (mark_notes m x o n)
  marks_said x o n k (inl e) = subst (λ (y : NoteOf m). TrueWhat m objects es rising listed y.what) (sym e) tt
  marks_said x o n k (inr (inl e)) = subst (λ (y : NoteOf m). TrueWhat m objects es rising listed y.what) (sym e) tt
  marks_said x o n k (inr (inr (inl e))) = subst (λ (y : NoteOf m). TrueWhat m objects es rising listed y.what) (sym e) tt
  marks_said x o n k (inr (inr (inr i))) = absurd i

  pub marks_right : (c : Client m) (w : Work m) (o : Oid) (n : ℕ) → Held c
      → RightMove (appends m (record c { begun = c.begun + 1 }) w (mark_record m c o n) (Marks (c.begun + 1) o n) (mark_notes m (c.begun + 1) o n))
  unfolding appends append_start
  marks_right c w o n h = (
    record {
      view = h.right.view;
      dir = h.right.dir;
      work = λ x is. subst (λ (y : Work m). TrueHand m objects es rising listed y.hand) (one_work m objects es rising listed _ x is) ((tt, λ p b k. absurd (no_base m objects es rising listed b k)), (refl, refl));
    },
    marks_said (c.begun + 1) o n,
    inr (inr (record { tx = h.tx; begun = ap (λ (i : ℕ). i + 1) h.begun; oid = o; mark = n; notes = ap (λ (i : ℕ). mark_notes m (i + 1) o n) h.begun })),
  )

  -- Rescues.

  abbrev word_in : RescueTurn m → Bool
  word_in (Known b needs) = b
  word_in _ = false

  abbrev needs_in : RescueTurn m → Bool
  needs_in (Known b needs) = needs
  needs_in _ = false

  abbrev turn_if : Bool → RescueTurn m → RescueTurn m → RescueTurn m
  turn_if b x y = if b then x else y

  pub rescued : (own : Entries) (gone : TrimPoints) (oids os : List Oid) (p : ℕ) (b needs : Bool) → rescue_turn m own gone oids os p ≡ Known b needs
      → ((e : Entry) → commit_at own p ≡ Some e → IsRescuer m objects es own gone oids os p e) → HasOutcome m objects es p b × (needs ≡ false → IsRecorded es p)
  unfolding rescue_turn
  rescued own gone oids os p b needs is rescuer = came (rescuing m objects es own gone oids os p).came refl is
    where
      recorded : (e : Entry) → commit_at own p ≡ Some e → IsRescuer m objects es own gone oids os p e → (needs_decision e && not (is_some (decision_in own p))) ≡ needs → needs ≡ false → IsRecorded es p
      recorded e here r is none d i need =
          decided_by (decision_in own p) refl
          (lacks_none (needs_decision e) (is_some (decision_in own p)) (subst (λ (x : Entry). needs_decision x ≡ true) same need) (is ∙ none))
        where
          same : d ≡ e
          same = one_entry 0 es p d e rising (has_contained es (p, d) i) (has_contained es (p, e) (r.only p e (contained_has own (p, e) (commit_there m own p e here).0)))

          lacks_none : (a b : Bool) → a ≡ true → (a && not b) ≡ false → b ≡ true
          lacks_none a b x y = grind arith

          decided_by : (o : Option Bool) → decision_in own p ≡ o → is_some (decision_in own p) ≡ true → DecisionStands es p
          decided_by None k t = absurd (no (sym (ap (λ (o : Option Bool). is_some o) k) ∙ t))
            where
              no : false ≡ true → ⊥
              no z = cc
          decided_by (Some c) k t =
              let f = decision_there own p c k in
              record { at = f.at; entry = f.entry; is_yes = c; here = r.only f.at f.entry (contained_has own (f.at, f.entry) f.here); is = f.is }

      by : (t : ℕ) → (rescuing m objects es own gone oids os p).came ≡ Played t → (e : Entry) → commit_at own p ≡ Some e → (d : Verdict) → view_outcome m (rescuing m objects es own gone oids os p).view own p e ≡ d → known_by m own p e d ≡ Known b needs → HasOutcome m objects es p b × (needs ≡ false → IsRecorded es p)
      by t end e here Commits o k =
          let r = rescuer e here in
          (subst (λ (x : Bool). HasOutcome m objects es p x) (ap word_in k) ((outcome_right m objects es rising listed (rescuing m objects es own gone oids os p).view own p e r.so (r.judge t end)).0 o), recorded e here r (ap needs_in k))
      by t end e here Aborts o k =
          let r = rescuer e here in
          (subst (λ (x : Bool). HasOutcome m objects es p x) (ap word_in k) ((outcome_right m objects es rising listed (rescuing m objects es own gone oids os p).view own p e r.so (r.judge t end)).1 o), recorded e here r (ap needs_in k))
      by t end e here (Unknown x) o k = absurd cc

      free : (t : ℕ) → (rescuing m objects es own gone oids os p).came ≡ Played t → (e : Option Entry) → commit_at own p ≡ e → at_record m (rescuing m objects es own gone oids os p).view own p None e ≡ Known b needs → HasOutcome m objects es p b × (needs ≡ false → IsRecorded es p)
      free t end None here k = absurd cc
      free t end (Some e) here k = by t end e here (view_outcome m (rescuing m objects es own gone oids os p).view own p e) refl k

      stuck : (x : ℕ × Oid) (e : Option Entry) → at_record m (rescuing m objects es own gone oids os p).view own p (Some x) e ≡ Known b needs → HasOutcome m objects es p b × (needs ≡ false → IsRecorded es p)
      stuck x None k = absurd cc
      stuck x (Some e) k = absurd cc

      grown : (x : Oid) (c : Bool) → turn_if c Wide (Wider x) ≡ Known b needs → HasOutcome m objects es p b × (needs ≡ false → IsRecorded es p)
      grown x true k = absurd cc
      grown x false k = absurd cc

      inside : (x : ℕ × Oid) (c : Bool) → turn_if c (at_record m (rescuing m objects es own gone oids os p).view own p (Some x) (commit_at own p)) (grows m oids x.1) ≡ Known b needs → HasOutcome m objects es p b × (needs ≡ false → IsRecorded es p)
      inside x true k = stuck x (commit_at own p) k
      inside x false k = grown x.1 (nat_le 128 (length oids)) k

      block : (t : ℕ) → (rescuing m objects es own gone oids os p).came ≡ Played t → (x : Option (ℕ × Oid)) → rescue_by m (rescuing m objects es own gone oids os p) own oids p x ≡ Known b needs
          → HasOutcome m objects es p b × (needs ≡ false → IsRecorded es p)
      block t end None k = free t end (commit_at own p) refl k
      block t end (Some x) k = inside x (has_oid x.1 oids) k

      came : (d : PlayEnd) → (rescuing m objects es own gone oids os p).came ≡ d → rescue_by m (rescuing m objects es own gone oids os p) own oids p (block_in m (rescuing m objects es own gone oids os p) own p d) ≡ Known b needs
          → HasOutcome m objects es p b × (needs ≡ false → IsRecorded es p)
      came (Played t) end k = block t end (block_in m (rescuing m objects es own gone oids os p) own p (Played t)) k
      came (Blocked q x) end k = inside (q, x) (has_oid x oids) k
