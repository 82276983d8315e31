-- A sync or a walk has ended.
use Rattle.std.proofs.Common.{◌≡◌, ◌≤◌, ℕ, Bool, true, false, not, ◌&&◌, List, [], Option, Some, None, refl, sym, ap, subst, ◌∙◌}
use Rattle.std.specs.Prelude.{◌==◌, is_some, nat_lt}
use Rattle.tg_base.specs.declared.cell.Cell.{Cell}
use Rattle.tg_base.specs.declared.ids.Oid.{Oid}
use Rattle.tg_kind.specs.Meaning.{Meaning}
use Rattle.tg_protocol.specs.Walking.{Members}
use Rattle.tg_protocol.specs.Checkpoints.{load_from}
use Rattle.tg_protocol.specs.Answers.{Moved}
use Rattle.tg_protocol.specs.Clients as told
use Rattle.tg_protocol.specs.ClientSteps.{found_by, takes_back, walks, knows, lo_for, synced, stale, starts_over, at_trim, gives_up, given_up_if, walk_ended_by, walk_ended}
use Rattle.tg_append.specs.declared.ends.Confirmed.{Confirmed as GivenEnd}
use Rattle.tg_append.specs.Syncs.{confirmed_of}
use Rattle.tg_stream.specs.declared.members.Members.{Members as Found}
use Rattle.tg_stream.specs.Walks.{members_of}
use Rattle.tg_client_cells.specs.Words.{ByStream, entries_at}
use Rattle.tg_client_cells.specs.Known.{returned}
use Rattle.tg_client_cells.proofs.Ruled.{as_ruled}
use Rattle.tg_client_state.specs.Tasks.{JobOf, KeepsJob}
use Rattle.tg_client_state.specs.States.{StateOf, Rest, client_of, KeepsViewIf}
use Rattle.tg_client_state.specs.Moves.{Holds}
use Rattle.tg_client_sync.specs.Syncs.{knowing}
use Rattle.tg_client_sync.specs.Finding.{found_in}
use Rattle.tg_client_sync.proofs.Founds.{found_job}

module _ (m : Meaning) where
  -- A sync.

  knows-as : (s : StateOf m) (r : Rest m) (x : Option (ℕ × Cell)) → client_of m (record s { known = knowing s.known x }) r ≡ knows m (client_of m s r) x
  knows-as s r None = refl
  knows-as s r (Some e) = refl

  abbrev pub confirmed : told.Work m → GivenEnd → ℕ → told.Work m
  confirmed w e lo = record w { tail = e.tail; lasts = e.lasts; lo = lo }

  pub sync_over : (P : Moved m → Type 0) (s u : StateOf m) (j : JobOf m) (os : List Oid) (lo : ℕ) (e : GivenEnd) (r : Rest m) (w : told.Work m) (old : ℕ) →
      Holds m s j r w old → os ≡ j.oids → lo ≡ lo_for m (client_of m s r) j.command → u ≡ record s { known = knowing s.known e.settled } →
      (Holds m u (record j { tail = e.tail; lasts = e.lasts; lo = lo }) r (confirmed w e lo) old → P (walks m os (client_of m u r) (confirmed w e lo))) →
      P (synced m (client_of m s r) w (confirmed_of e))
  sync_over P s u j os lo e r w old h ho hl hs f =
      let oids : os ≡ w.oids = ho ∙ sym (ap (λ (v : told.Work m). v.oids) h.job) in
      let low : lo ≡ lo_for m (client_of m s r) w.command = hl ∙ sym (ap (λ (v : told.Work m). lo_for m (client_of m s r) v.command) h.job) in
      let c : client_of m u r ≡ knows m (client_of m s r) e.settled = ap (λ (v : StateOf m). client_of m v r) hs ∙ knows-as s r e.settled in
      let held : Holds m u (record j { tail = e.tail; lasts = e.lasts; lo = lo }) r (confirmed w e lo) old = record {
        since = subst (λ (v : StateOf m). old ≤ v.rids.next) (sym hs) h.since;
        view = subst (λ (v : StateOf m). KeepsViewIf m v.view r.view) (sym hs) h.view;
        job = ap (λ (v : told.Work m). confirmed v e lo) h.job;
      } in
      subst (λ n. P (walks m w.oids (knows m (client_of m s r) e.settled) (confirmed w e n))) low
      (subst (λ (d : told.Client m). P (walks m w.oids d (confirmed w e lo))) c
      (subst (λ (ps : List Oid). P (walks m ps (client_of m u r) (confirmed w e lo))) oids (f held)))

  -- A trim.

  abbrev pub afresh : told.Work m → ByStream → List (Oid × ℕ) → told.Work m
  afresh w found trims = record w { lo = 0; found = found; trims = trims }

  pub over_again : (P : Moved m → Type 0) (s : StateOf m) (j : JobOf m) (r : Rest m) (w : told.Work m) (old : ℕ) (os ps : List Oid) (found : ByStream) (trims : List (Oid × ℕ)) →
      ps ≡ j.oids → found ≡ [] → trims ≡ [] → Holds m s j r w old →
      (Holds m s (record j { lo = 0; found = found; trims = trims }) r (afresh w found trims) old → P (walks m ps (client_of m s r) (afresh w found trims))) →
      P (starts_over m (client_of m s r) w os true)
  over_again P s j r w old os ps found trims ho hf ht h f =
      let oids : ps ≡ w.oids = ho ∙ sym (ap (λ (v : told.Work m). v.oids) h.job) in
      let held : Holds m s (record j { lo = 0; found = found; trims = trims }) r (afresh w found trims) old = record { since = h.since; view = h.view; job = ap (λ (v : told.Work m). afresh v found trims) h.job } in
      subst (λ (fs : ByStream). P (walks m w.oids (client_of m s r) (afresh w fs []))) hf
      (subst (λ (ts : List (Oid × ℕ)). P (walks m w.oids (client_of m s r) (afresh w found ts))) ht
      (subst (λ (qs : List Oid). P (walks m qs (client_of m s r) (afresh w found trims))) oids (f held)))

  -- whether the tail is stale, by what is kept
  pub stale_as : (s : StateOf m) (j : JobOf m) (r : Rest m) (w : told.Work m) (o : Oid) (x : Members) (list : List ℕ) (b : ℕ) (v : Bool) → x.list ≡ list → KeepsJob m j w →
      v ≡ (not (is_some (load_from m (entries_at s.known.cells list) o b)) && nat_lt j.gone_before b) → v ≡ stale m (client_of m s r) w o x b
  stale_as s j r w o x list b v hx hj hv =
      hv
      ∙ ap (λ (ps : List ℕ). not (is_some (load_from m (entries_at s.known.cells ps) o b)) && nat_lt j.gone_before b) (sym hx)
      ∙ ap (λ es. not (is_some (load_from m es o b)) && nat_lt j.gone_before b) ((as_ruled m).entries s.known.cells x.list)
      ∙ ap (λ (u : told.Work m). not (is_some (load_from m (told.entries_at m s.known.cells x.list) o b)) && nat_lt u.gone_before b) (sym hj)

  -- whether the kept view is given up
  pub gives_as : (s : StateOf m) (j : JobOf m) (r : Rest m) (w : told.Work m) (b : ℕ) (v : Bool) → KeepsJob m j w →
      v ≡ gives_up m (client_of m s r) (record w { command = j.command }) b → v ≡ gives_up m (client_of m s r) w b
  gives_as s j r w b v hj hv = hv ∙ ap (λ (u : told.Work m). gives_up m (client_of m s r) (record w { command = u.command }) b) (sym hj)

  abbrev trimmed : told.Client m → told.Work m → List Oid → Bool → Bool → Moved m
  trimmed c w os v g = at_trim m (given_up_if m g c) w os v (g && not (w.lo == 0))

  -- the kept view stays
  pub trim_kept : (P : Moved m → Type 0) (s : StateOf m) (r : Rest m) (w : told.Work m) (o : Oid) (os : List Oid) (x : Members) (b : ℕ) (v : Bool) →
      v ≡ stale m (client_of m s r) w o x b → false ≡ gives_up m (client_of m s r) w b →
      P (at_trim m (client_of m s r) w os v false) → P (walk_ended_by m (client_of m s r) w o os x (Some b))
  trim_kept P s r w o os x b v hv hg f =
      subst (λ z. P (trimmed (client_of m s r) w os z (gives_up m (client_of m s r) w b))) hv
      (subst (λ z. P (trimmed (client_of m s r) w os v z)) hg f)

  -- the kept view is given up
  pub trim_given : (P : Moved m → Type 0) (s : StateOf m) (j : JobOf m) (r : Rest m) (w : told.Work m) (old : ℕ) (o : Oid) (os : List Oid) (x : Members) (b : ℕ) (v over : Bool) → Holds m s j r w old →
      v ≡ stale m (client_of m s r) w o x b → true ≡ gives_up m (client_of m s r) w b → over ≡ not (j.lo == 0) →
      (Holds m (record s { view = None }) j (record r { view = None }) w old → P (at_trim m (client_of m (record s { view = None }) (record r { view = None })) w os v over)) →
      P (walk_ended_by m (client_of m s r) w o os x (Some b))
  trim_given P s j r w old o os x b v over h hv hg ho f =
      let low : over ≡ not (w.lo == 0) = ho ∙ sym (ap (λ (u : told.Work m). not (u.lo == 0)) h.job) in
      subst (λ z. P (trimmed (client_of m s r) w os z (gives_up m (client_of m s r) w b))) hv
      (subst (λ z. P (trimmed (client_of m s r) w os v z)) hg
      (subst (λ z. P (at_trim m (record (client_of m s r) { view = None }) w os v z)) low (f (record { since = h.since; view = tt; job = h.job }))))

  -- A walk.

  pub ended_as : (P : Moved m → Type 0) (s u : StateOf m) (j k : JobOf m) (r : Rest m) (w : told.Work m) (old : ℕ) (o : Oid) (os : List Oid) (ps : List ℕ) (e : Found) (g : Option ℕ) → Holds m s j r w old → ps ≡ e.list →
      u ≡ record s { known = returned s.known e.cells } → k ≡ found_in m j o ps e.gone → e.gone ≡ g →
      (Holds m u k r (found_by m w o (members_of e)) old → P (walk_ended_by m (client_of m u r) (found_by m w o (members_of e)) o os (members_of e) g)) →
      P (walk_ended m (client_of m s r) w o os (members_of e))
  ended_as P s u j k r w old o os ps e g h hp hu hj hg f =
      let hk : k ≡ found_in m j o e.list e.gone = hj ∙ ap (λ (qs : List ℕ). found_in m j o qs e.gone) hp in
      let c : client_of m u r ≡ takes_back m (client_of m s r) (members_of e) = ap (λ (v : StateOf m). client_of m v r) hu in
      let held : Holds m u k r (found_by m w o (members_of e)) old = record {
        since = subst (λ (v : StateOf m). old ≤ v.rids.next) (sym hu) h.since;
        view = subst (λ (v : StateOf m). KeepsViewIf m v.view r.view) (sym hu) h.view;
        job = subst (λ (i : JobOf m). KeepsJob m i (found_by m w o (members_of e))) (sym hk) (found_job m j w o (members_of e) h.job);
      } in
      subst (λ (x : Option ℕ). P (walk_ended_by m (takes_back m (client_of m s r) (members_of e)) (found_by m w o (members_of e)) o os (members_of e) x)) (sym hg)
      (subst (λ (d : told.Client m). P (walk_ended_by m d (found_by m w o (members_of e)) o os (members_of e) g)) c (f held))
