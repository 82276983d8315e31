-- Along a run whose walks are exact and whose appends land past views, what kept views went past has fates, but for what stood below
-- trims that walks met; and what they went past of the clients' own records has.
use Rattle.std.proofs.Common.{◌≡◌, ◌⊎◌, ℕ, zero, suc, ◌<◌, ◌≤◌, List, [], ◌∷◌, ◌++◌, map, Bool, true, false, refl, sym, ap, ◌∙◌, subst, inl, inr, arith, Option, Some, None, append-nil}
use Rattle.std.specs.Prelude.{slice_index_or, is_some, Contains}
use Rattle.tg_base.specs.Clusters.{Header}
use Rattle.tg_base.specs.declared.cell.Cell.{Cell}
use Rattle.tg_base.specs.declared.ids.Oid.{Oid}
use Rattle.tg_entry.specs.Needs.{reads_of}
use Rattle.tg_entry.specs.declared.entry.Entry.{Entry}
use Rattle.tg_kind.specs.Meaning.{Meaning}
use Rattle.tg_model.specs.Kinds.{EventOf}
use Rattle.tg_protocol.specs.Words.{numbers, cell_at, with_cell, with_num}
use Rattle.tg_protocol.specs.Entries.{is_commit}
use Rattle.tg_protocol.specs.Checkpoints.{trim_of}
use Rattle.tg_protocol.specs.Views.{View, unknown_in}
use Rattle.tg_protocol.specs.Clients.{Purpose, Writes, Judged, Decides, Rescues, Saves, Marks, Task, Syncing, Walking, Appending, Trimming, Copying', Reconfiguring, Work, Client, new_client, upto_in}
use Rattle.tg_protocol.specs.ClientSteps.{knows, given_up_if, task_in}
use Rattle.tg_protocol.specs.Walked.{Walked, walked_in}
use Rattle.tg_protocol.specs.Worlds.{World, start, client, log}
use Rattle.tg_protocol.specs.Runs.{Moves, Next, Takes, Reaches, run}
use Rattle.tg_law_replies.specs.History.Worlds.{entries_in}
use Rattle.tg_law_replies.proofs.History.Members.{Has, has_contained, contained_has}
use Rattle.tg_law_replies.proofs.Views.Settled.{IsFated}
use Rattle.tg_law_replies.specs.Replies.Runs.{InEachStep}
use Rattle.tg_law_replies.specs.Replies.Steps.{EachEvent}
use Rattle.tg_law_replies.proofs.Replies.Along.{run_on}
use Rattle.tg_law_replies.proofs.Replies.Carried.{Carries, WalksBy, carried_more}
use Rattle.tg_law_walks.specs.Walks.Rounds.{round, IsRound}
use Rattle.tg_law_walks.proofs.Walks.Syncs.{logs_by_position}
use Rattle.tg_law_walks.proofs.Walks.Cells.{cell_here, more_some}
use Rattle.tg_law_walks.proofs.Walks.Positions.{nums_split}
use Rattle.tg_law_walks.specs.Lists.Spared.{TrimsWereSpare}
use Rattle.tg_law_syncs.specs.Finds.Left.{RoundsExact}
use Rattle.tg_law_syncs.proofs.Exact.Finds.{rounds_exact}
use Rattle.tg_law_syncs.proofs.Known.Ways.{played_view}
use Rattle.tg_law_headline.specs.Leaves.Passed.{IsIdle, WasMet, ViewsPass, ViewsPassBySpareTrims, Ended}
use Rattle.tg_law_headline.proofs.Leaves.Turns.{Lasts, AtPurpose, AtTask, AtWork, Holds, Rested, PlayHolds}
use Rattle.tg_law_headline.proofs.Leaves.Plays.{OwnsKnown, OwnsPassed, none_owned, owns_play, Passes, none_passes, play_passes}
use Rattle.tg_law_headline.proofs.Leaves.Ends.{event_ends}
use Rattle.tg_law_headline.proofs.Leaves.Named.{numbered, walked_number}
use Rattle.tg_law_headline.proofs.Leaves.Steps.{StepLands, happens_hold}
use Rattle.tg_law_headline.proofs.Leaves.Landing.{LandInSteps, lands_in_steps}

grouped : {X : Type 0} → (xs ys zs : List X) → (xs ++ ys) ++ zs ≡ xs ++ (ys ++ zs)
grouped [] ys zs = refl
grouped (x ∷ xs) ys zs = ap (λ us. x ∷ us) (grouped xs ys zs)

module _ (m : Meaning) (h : Header) where
  -- what was met, whether its client had no work since or not
  -- so it has where the run goes on
  pub ended_on : (xs ys : Moves m) (k : ℕ) (end : Walked m) → Ended m h xs k end → Ended m h (xs ++ ys) k end
  ended_on xs ys k end a = record {
    before = a.before;
    event = a.event;
    after = a.after ++ ys;
    split = ap (λ (us : Moves m). us ++ ys) a.split ∙ grouped a.before (Takes a.event ∷ a.after) ys;
    walked = a.walked;
  }

  record HadMet (ms : Moves m) (n : ℕ) (o : Oid) (p : ℕ) : Type 0 where
    client : ℕ
    end : Walked m
    came : Ended m h ms client end
    of : end.client.num ≡ n
    below : ℕ
    met : trim_of end.work.trims o ≡ Some below
    above : p < below

  had_met : (xs : Moves m) (n : ℕ) (o : Oid) (p : ℕ) → WasMet m h xs n o p → HadMet xs n o p
  had_met xs n o p x = record { client = x.client; end = x.end; came = x.came; of = x.of; below = x.below; met = x.met; above = x.above }

  -- what was met stays so
  met_later : (xs ys : Moves m) (n : ℕ) (o : Oid) (p : ℕ) → WasMet m h xs n o p → WasMet m h (xs ++ ys) n o p
  unfolding ended_on
  met_later xs ys n o p x = record {
    client = x.client;
    end = x.end;
    came = ended_on xs ys x.client x.end x.came;
    of = x.of;
    below = x.below;
    met = x.met;
    above = x.above;
    until = x.until;
    since = x.since ++ ys;
    rest = ap (λ (us : Moves m). us ++ ys) x.rest ∙ grouped x.until x.since ys;
    idle = x.idle;
  }

  had_later : (xs ys : Moves m) (n : ℕ) (o : Oid) (p : ℕ) → HadMet xs n o p → HadMet (xs ++ ys) n o p
  had_later xs ys n o p x = record {
    client = x.client;
    end = x.end;
    came = ended_on xs ys x.client x.end x.came;
    of = x.of;
    below = x.below;
    met = x.met;
    above = x.above;
  }

  met_here : (xs : Moves m) (e : EventOf m) (k : ℕ) (y : Walked m) (o : Oid) (b p : ℕ) → walked_in m (run m xs (start m h)) e k ≡ Some y → trim_of y.work.trims o ≡ Some b → p < b → HadMet (xs ++ Takes e ∷ []) y.client.num o p
  met_here xs e k y o b p is t less = record { client = k; end = y; came = record { before = xs; event = e; after = []; split = refl; walked = is }; of = refl; below = b; met = t; above = less }

  -- in a world in which the client has no work
  met_idle : (xs : Moves m) (k : ℕ) (o : Oid) (p : ℕ) → IsIdle m (run m xs (start m h)) k → HadMet xs k o p → WasMet m h xs k o p
  met_idle xs k o p idle x = record {
    client = x.client;
    end = x.end;
    came = x.came;
    of = x.of;
    below = x.below;
    met = x.met;
    above = x.above;
    until = x.came.after;
    since = [];
    rest = sym (append-nil x.came.after);
    idle = subst (λ (us : Moves m). IsIdle m (run m us (start m h)) x.client) x.came.split (subst (λ (j : ℕ). IsIdle m (run m xs (start m h)) j) (sym same) idle);
  }
    where
      same : x.client ≡ k
      same = sym (walked_number m h x.came.before x.came.event x.client x.end x.came.walked) ∙ x.of

  -- wherever a step of a run comes to the end of a command's walks, the kept view has the client's own records that it went past
  abbrev pub OwnsStayPassed : World m → Moves m → Type 0
  OwnsStayPassed w zs = InEachStep m h zs (λ xs v e. EachEvent m h.objects (entries_in m w) (λ c x. OwnsPassed m (WasMet m h xs c.num) (entries_in m w) c.own c.view) v e)

  module _ (w : World m) (G : ℕ → Oid → ℕ → Type 0) where
    -- a kept view, with its client's own records
    abbrev pub Kept : ℕ → List ℕ → List (ℕ × Cell) → List Oid → Option (View m) → Type 0
    Kept n own cells hosted view = OwnsKnown m (G n) (entries_in m w) own cells × OwnsPassed m (G n) (entries_in m w) own view × Passes m (G n) (entries_in m w) hosted view

    some_view : (k : View m) (v : Option (View m)) (p : ℕ) → v ≡ Some k → upto_in m v ≤ p → p < k.upto → ⊥
    some_view k v p is le less = let at : upto_in m v ≡ k.upto = ap (upto_in m) is in omega (arith, at, le, less)

    owned : (n : ℕ) (own : List ℕ) (cells : List (ℕ × Cell)) (os : List Oid) (v : Option (View m)) (p : ℕ) (d : Cell) → upto_in m v ≤ p → Kept n own cells os v → Kept n (with_num p own) (with_cell cells p d) os v
    owned n own cells os v p d le k = (
      λ q i. known q (nums_split (p ∷ []) own q (has_contained (with_num p own) q i)),
      λ u is q e i there commit less reads. passed u is q e there commit less reads (nums_split (p ∷ []) own q (has_contained (with_num p own) q i)),
      k.2,
    )
      where
        known : (q : ℕ) → Has (p ∷ []) q ⊎ Has own q → is_some (cell_at (with_cell cells p d) q) ≡ true
        known q (inl (inl e)) = subst (λ (n : ℕ). is_some (cell_at (with_cell cells p d) n) ≡ true) (sym e) (ap is_some (cell_here cells p d))
        known q (inl (inr e)) = absurd e
        known q (inr i) = more_some cells p d q (k.0 q (contained_has own q i))

        passed : (u : View m) → v ≡ Some u → (q : ℕ) (e : Entry) → Contains (entries_in m w) (q, e) → is_commit e ≡ true → q < u.upto → unknown_in m u (reads_of e) q ≡ None → Has (p ∷ []) q ⊎ Has own q → IsFated m u q
        passed u is q e there commit less reads (inl (inl same)) = absurd (some_view u v p is le (subst (λ (i : ℕ). i < u.upto) same less))
        passed u is q e there commit less reads (inl (inr none)) = absurd none
        passed u is q e there commit less reads (inr i) = k.1 u is q e (contained_has own q i) there commit less reads

    lasts : Lasts m Kept
    lasts = record {
      given = λ n own cells os ps v k. (k.0, none_owned m (G n) (entries_in m w) own, none_passes m (G n) (entries_in m w) ps);
      left = λ n own cells more os v f k. (λ p i. f p i (k.0 p i), k.1, k.2);
      owns = λ n own cells os v p d le k. owned n own cells os v p d le k;
    }

  module _ (w : World m) where
    kept_more : (G H : ℕ → Oid → ℕ → Type 0) (n : ℕ) → ((o : Oid) (p : ℕ) → G n o p → H n o p) → (own : List ℕ) (cells : List (ℕ × Cell)) (hosted : List Oid) (view : Option (View m)) → Kept w G n own cells hosted view → Kept w H n own cells hosted view
    kept_more G H n more own cells hosted view f = (f.0, f.1, λ k is p e o i commit host l less known. by o p (f.2 k is p e o i commit host l less known))
      where
        by : {A : Type 0} → (o : Oid) (p : ℕ) → A ⊎ G n o p → A ⊎ H n o p
        by {A} o p (inl a) = inl a
        by {A} o p (inr x) = inr (more o p x)

    -- until the client's command has played, and from then on
    abbrev K : Moves m → ℕ → List ℕ → List (ℕ × Cell) → List Oid → Option (View m) → Type 0
    K xs n own cells os v = Kept w (WasMet m h xs) n own cells os v

    abbrev J : Moves m → ℕ → List ℕ → List (ℕ × Cell) → List Oid → Option (View m) → Type 0
    J xs n own cells os v = Kept w (HadMet xs) n own cells os v

    weaker : (xs : Moves m) (n : ℕ) (own : List ℕ) (cells : List (ℕ × Cell)) (os : List Oid) (v : Option (View m)) → K xs n own cells os v → J xs n own cells os v
    weaker xs n own cells os v k = kept_more (WasMet m h xs) (HadMet xs) n (λ o p x. had_met xs n o p x) own cells os v k

    k_later : (xs ys : Moves m) (n : ℕ) (own : List ℕ) (cells : List (ℕ × Cell)) (os : List Oid) (v : Option (View m)) → K xs n own cells os v → K (xs ++ ys) n own cells os v
    k_later xs ys n own cells os v k = kept_more (WasMet m h xs) (WasMet m h (xs ++ ys)) n (λ o p x. met_later xs ys n o p x) own cells os v k

    j_later : (xs ys : Moves m) (n : ℕ) (own : List ℕ) (cells : List (ℕ × Cell)) (os : List Oid) (v : Option (View m)) → J xs n own cells os v → J (xs ++ ys) n own cells os v
    j_later xs ys n own cells os v k = kept_more (HadMet xs) (HadMet (xs ++ ys)) n (λ o p x. had_later xs ys n o p x) own cells os v k

    module _ (xs ys : Moves m) (n : ℕ) (own : List ℕ) (cells : List (ℕ × Cell)) (os : List Oid) (v : Option (View m)) where
      purpose_later : (y : Purpose m) → AtPurpose m (K xs) (J xs) n own cells os v y → AtPurpose m (K (xs ++ ys)) (J (xs ++ ys)) n own cells os v y
      purpose_later Judged k = k_later xs ys n own cells os v k
      purpose_later Writes k = j_later xs ys n own cells os v k
      purpose_later (Decides x) k = j_later xs ys n own cells os v k
      purpose_later (Rescues x) k = j_later xs ys n own cells os v k
      purpose_later (Saves o u) k = j_later xs ys n own cells os v k
      purpose_later (Marks i o u) k = j_later xs ys n own cells os v k

      task_later : (t : Task m) → AtTask m (K xs) (J xs) n own cells os v t → AtTask m (K (xs ++ ys)) (J (xs ++ ys)) n own cells os v t
      task_later (Syncing s) k = k_later xs ys n own cells os v k
      task_later (Walking c left) k = k_later xs ys n own c.cells os v k
      task_later (Appending a y) k = purpose_later y k
      task_later (Trimming t) k = j_later xs ys n own cells os v k
      task_later (Copying' y) k = j_later xs ys n own cells os v k
      task_later (Reconfiguring r) k = j_later xs ys n own cells os v k

      work_later : (o : Option (Work m)) → AtWork m (K xs) (J xs) n own cells os v o → AtWork m (K (xs ++ ys)) (J (xs ++ ys)) n own cells os v o
      work_later None k = j_later xs ys n own cells os v k
      work_later (Some x) k = task_later (task_in m x.hand) k

    -- of a client: what holds by what it does, and what holds where it has no work
    record IsKept (xs : Moves m) (c : Client m) : Type 0 where
      holds : Holds m (K xs) (J xs) c
      rested : Rested m (K xs) (J xs) c

    all_later : (xs ys : Moves m) (c : Client m) → IsKept xs c → IsKept (xs ++ ys) c
    all_later xs ys c k = record { holds = work_later xs ys c.num c.own c.cells c.hosted c.view c.work k.holds; rested = λ e. k_later xs ys c.num c.own c.cells c.hosted c.view (k.rested e) }

    abbrev All : Moves m → World m → Type 0
    All xs v = (k : ℕ) → IsKept xs (client m v k)

    abbrev Holding : Moves m → World m → Type 0
    Holding xs v = (k : ℕ) → Holds m (K xs) (J xs) (client m v k)

    -- what holds after a step holds of a view that rests too
    all_held : (xs : Moves m) → Holding xs (run m xs (start m h)) → All xs (run m xs (start m h))
    all_held xs q k = by (client m (run m xs (start m h)) k) (numbered m h xs k) (λ e. e) (q k)
      where
        rested : (c : Client m) → c.num ≡ k → IsIdle m (run m xs (start m h)) k → J xs c.num c.own c.cells c.hosted c.view → K xs c.num c.own c.cells c.hosted c.view
        rested c num e j = kept_more (HadMet xs) (WasMet m h xs) c.num
            (λ o p x. subst (λ (n : ℕ). WasMet m h xs n o p) (sym num) (met_idle xs k o p e (subst (λ (n : ℕ). HadMet xs n o p) num x))) c.own c.cells c.hosted c.view j

        by : (c : Client m) → c.num ≡ k → (c.work ≡ None → IsIdle m (run m xs (start m h)) k) → Holds m (K xs) (J xs) c → IsKept xs c
        by c num idle held = record { holds = held; rested = λ e. rested c num (idle e) (subst (λ (o : Option (Work m)). AtWork m (K xs) (J xs) c.num c.own c.cells c.hosted c.view o) e held) }

    abbrev Exact : Client m → Work m → Type 0
    Exact c x = IsRound m (log m w) (round m c x c.cells) []

    play_kept : (xs : Moves m) (c : Client m) (x : Work m) → IsRound m (log m w) (round m c x c.cells) [] → ((o : Oid) (b p : ℕ) → trim_of x.trims o ≡ Some b → p < b → HadMet xs c.num o p) → PlayHolds m (K xs) (J xs) c x
    play_kept xs c x r met plays k = by (weaker xs c.num c.own c.cells c.hosted c.view k)
      where
        by : J xs c.num c.own c.cells c.hosted c.view → J xs c.num c.own c.cells c.hosted (Some (played_view m c x))
        by j = (
          j.0,
          owns_play m (HadMet xs c.num) (log m w) (logs_by_position m w) c x r met j.0 j.1,
          play_passes m (HadMet xs c.num) (log m w) (logs_by_position m w) c x r met j.2,
        )

    takes_kept : (xs : Moves m) (e : EventOf m) → StepLands m (run m xs (start m h)) e → EachEvent m h.objects (entries_in m w) Exact (run m xs (start m h)) e → All xs (run m xs (start m h)) → All (xs ++ Takes e ∷ []) (run m (xs ++ Takes e ∷ []) (start m h))
    takes_kept xs e lands exact q = all_held (xs ++ Takes e ∷ [])
        (subst (λ (v : World m). Holding (xs ++ Takes e ∷ []) v) (sym (run_on m xs (Takes e) (start m h)))
        (happens_hold m h.objects (entries_in m w) (K (xs ++ Takes e ∷ [])) (J (xs ++ Takes e ∷ [])) (lasts w (WasMet m h (xs ++ Takes e ∷ []))) (lasts w (HadMet (xs ++ Takes e ∷ []))) (weaker (xs ++ Takes e ∷ [])) (run m xs (start m h)) e
        (λ k. (now k).rested) (λ k. (now k).holds)
        (event_ends m h.objects (entries_in m w) Exact (PlayHolds m (K (xs ++ Takes e ∷ [])) (J (xs ++ Takes e ∷ []))) (run m xs (start m h)) e
        (λ k y is r. play_kept (xs ++ Takes e ∷ []) y.client y.work r (λ o b p t less. met_here xs e k y o b p is t less)) exact)
        lands))
      where
        now : (k : ℕ) → IsKept (xs ++ Takes e ∷ []) (client m (run m xs (start m h)) k)
        now k = all_later xs (Takes e ∷ []) (client m (run m xs (start m h)) k) (q k)

    next_kept : (xs : Moves m) → All xs (run m xs (start m h)) → All (xs ++ Next ∷ []) (run m (xs ++ Next ∷ []) (start m h))
    next_kept xs q =
        subst (λ (v : World m). All (xs ++ Next ∷ []) v) (sym (run_on m xs Next (start m h)))
        (λ k. all_later xs (Next ∷ []) (client m (run m xs (start m h)) k) (q k))

    module _ (zs : Moves m) (exact : RoundsExact m h zs w) (lands : LandInSteps m h zs w) where
      kept_on : (xs ms ys : Moves m) → zs ≡ xs ++ (ms ++ ys) → All xs (run m xs (start m h)) → All (xs ++ ms) (run m (xs ++ ms) (start m h))
      kept_on xs [] ys split q = subst (λ (us : Moves m). All us (run m us (start m h))) (sym (append-nil xs)) q
      kept_on xs (Next ∷ ms) ys split q =
          subst (λ (us : Moves m). All us (run m us (start m h))) (grouped xs (Next ∷ []) ms)
          (kept_on (xs ++ Next ∷ []) ms ys (split ∙ sym (grouped xs (Next ∷ []) (ms ++ ys))) (next_kept xs q))
      kept_on xs (Takes e ∷ ms) ys split q =
          subst (λ (us : Moves m). All us (run m us (start m h))) (grouped xs (Takes e ∷ []) ms)
          (kept_on (xs ++ Takes e ∷ []) ms ys (split ∙ sym (grouped xs (Takes e ∷ []) (ms ++ ys))) (takes_kept xs e (lands xs (ms ++ ys) e split) (exact xs (ms ++ ys) e split) q))

      nothing_kept : (G : ℕ → Oid → ℕ → Type 0) (n : ℕ) (hosted : List Oid) → Kept w G n [] [] hosted None
      nothing_kept G n hosted = (λ p i. absurd (has_contained [] p i), none_owned m (G n) (entries_in m w) [], none_passes m (G n) (entries_in m w) hosted)

      first_kept : (k : ℕ) → IsKept [] (new_client m h k)
      unfolding new_client
      first_kept k = record { holds = nothing_kept (HadMet []) (new_client m h k).num (new_client m h k).hosted; rested = λ e. nothing_kept (WasMet m h []) (new_client m h k).num (new_client m h k).hosted }

      new_kept : (ns : List ℕ) (k : ℕ) (d : Client m) → IsKept [] d → IsKept [] (slice_index_or (map (new_client m h) ns) k d)
      new_kept [] k d q = q
      new_kept (n ∷ ns) zero d q = first_kept n
      new_kept (n ∷ ns) (suc k) d q = new_kept ns k d q

      start_kept : All [] (run m [] (start m h))
      unfolding run start
      start_kept k = new_kept (numbers h.clients 0) k (new_client m h k) (first_kept k)

      kept_at : (xs ys : Moves m) → zs ≡ xs ++ ys → All xs (run m xs (start m h))
      kept_at xs ys split = kept_on [] xs ys split start_kept

      -- Through the walks of a step.

      abbrev I : Moves m → Client m → Work m → Type 0
      I xs c x = OwnsPassed m (WasMet m h xs c.num) (entries_in m w) c.own c.view × Passes m (WasMet m h xs c.num) (entries_in m w) c.hosted c.view

      carries : (xs : Moves m) → Carries m (I xs)
      carries xs = record {
        turned = λ c x n g i. i;
        taken = λ c x o y i. i;
        known = λ c x s t ls lo i. by c x s i;
        given = λ c x b i. given c x b i;
        over = λ c x i. i;
        again = λ c x i. i;
        stood = λ c x q i. i;
      }
        where
          by : (c : Client m) (x : Work m) (s : Option (ℕ × Cell)) → I xs c x → I xs (knows m c s) x
          by c x None i = i
          by c x (Some s) i = i

          given : (c : Client m) (x : Work m) (b : Bool) → I xs c x → I xs (given_up_if m b c) x
          given c x true i = (none_owned m (WasMet m h xs c.num) (entries_in m w) c.own, none_passes m (WasMet m h xs c.num) (entries_in m w) c.hosted)
          given c x false i = i

      walks_kept : (xs : Moves m) (c : Client m) (x : Work m) (t : Task m) → AtTask m (K xs) (J xs) c.num c.own c.cells c.hosted c.view t → WalksBy m (I xs) c x t
      walks_kept xs c x (Syncing s) k = (k.1, k.2)
      walks_kept xs c x (Walking v os) k = (k.1, k.2)
      walks_kept xs c x (Appending a y) k = tt
      walks_kept xs c x (Trimming t) k = tt
      walks_kept xs c x (Copying' y) k = tt
      walks_kept xs c x (Reconfiguring r) k = tt

      in_hand : (xs : Moves m) (c : Client m) (x : Work m) → c.work ≡ Some x → IsKept xs c → WalksBy m (I xs) c x (task_in m x.hand)
      in_hand xs c x works k = walks_kept xs c x (task_in m x.hand) (subst (λ (o : Option (Work m)). AtWork m (K xs) (J xs) c.num c.own c.cells c.hosted c.view o) works k.holds)

      -- what follows of it where walks end
      carried : (P : Moves m → Client m → Work m → Type 0) → ((xs : Moves m) (c : Client m) (x : Work m) → I xs c x → P xs c x) → InEachStep m h zs (λ xs v e. EachEvent m h.objects (entries_in m w) (P xs) v e)
      carried P gives xs ys e split =
          carried_more m h.objects (entries_in m w) Exact Exact (P xs) (I xs) (carries xs) (λ c x i p r. gives xs c x i) (run m xs (start m h)) e
          (λ k x works. in_hand xs (client m (run m xs (start m h)) k) x works (kept_at xs (Takes e ∷ ys) split k)) (exact xs ys e split) (exact xs ys e split)

      pub views_kept : ViewsPass m h zs w
      views_kept = carried (λ xs c x. Passes m (WasMet m h xs c.num) (entries_in m w) c.hosted c.view) (λ xs c x i. i.1)

      pub owns_kept : OwnsStayPassed w zs
      owns_kept = carried (λ xs c x. OwnsPassed m (WasMet m h xs c.num) (entries_in m w) c.own c.view) (λ xs c x i. i.0)

pub views_pass : (m : Meaning) → ViewsPassBySpareTrims m
views_pass m h ms w r trims = views_kept m h w ms (rounds_exact m h ms w r trims) (lands_in_steps m h ms w r trims)

pub owns_stay : (m : Meaning) (h : Header) (ms : Moves m) (w : World m) → Reaches m h ms w → TrimsWereSpare m h ms → OwnsStayPassed m h w ms
owns_stay m h ms w r trims = owns_kept m h w ms (rounds_exact m h ms w r trims) (lands_in_steps m h ms w r trims)
