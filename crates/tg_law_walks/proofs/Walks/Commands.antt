-- A command's walks, stream after stream, over a log that is fixed.
use Rattle.std.proofs.Common.{◌≡◌, ℕ, ◌≤◌, List, [], ◌∷◌, Bool, true, false, refl, sym, ap, ◌∙◌, subst, inl, arith, Option, Some, None}
use Rattle.std.specs.Prelude.{nat_lt, ◌&&◌, is_some, Contains}
use Rattle.tg_base.specs.declared.cell.Cell.{Cell}
use Rattle.tg_base.specs.declared.ids.Oid.{Oid}
use Rattle.tg_kind.specs.Meaning.{Meaning}
use Rattle.tg_model.specs.Kinds.{CommandOf}
use Rattle.tg_model.specs.declared.command.Command.TheVariants as cmd
use Rattle.tg_protocol.specs.Words.{with_cell}
use Rattle.tg_protocol.specs.Requests.{Next, Goes, Learns, Ends}
use Rattle.tg_protocol.specs.Syncing.{Confirmed, sync_start, sync_feed}
use Rattle.tg_protocol.specs.Walking.{Walk, Members, walk_feed, walk_again}
use Rattle.tg_protocol.specs.Logs.{Log, entries_of}
use Rattle.tg_protocol.specs.Views.{View, Base, base_of}
use Rattle.tg_protocol.specs.Clients.{Walking, Work, Client, upto, upto_in, positions_in}
use Rattle.tg_protocol.specs.Answers.{Moved, syncs, keeps}
use Rattle.tg_protocol.specs.ClientSteps.{after_turn, met, takes_back, found_by, start_walk, fate_missing, zero_if, lo_for, stale, plays_kept, gives_up, lasts_of, task_feed, task_again}
use Rattle.tg_protocol.specs.Clients.{Syncing}
use Rattle.tg_law_steps.proofs.Places
use Rattle.tg_law_steps.proofs.Places.{Place, Feeds, Newer, OnSync, OnWalk, becomes}
use Rattle.tg_law_steps.proofs.Ways.{Way, FeedsSync, FeedsWalk, NewerSync, NewerWalk, Confirms, Settles, EndsAtOnce, WalkEnds, MetNone, MetLow, MetHigh, StartsOver}
use Rattle.tg_law_steps.proofs.Ends as end
use Rattle.tg_law_steps.proofs.Along.{along}
use Rattle.tg_law_replies.proofs.Replies.Ways.{EachAt}
use Rattle.tg_law_replies.proofs.Replies.Reached.{each_along}
use Rattle.tg_law_walks.specs.Walks.Streams.{rises, IsByPosition, AreKnown, AreLinked}
use Rattle.tg_law_walks.specs.Walks.Walks.{AreMore, IsExact, Walks, Begins}
use Rattle.tg_law_walks.specs.Walks.Rounds.{Round, round, IsRound, IsSyncing, IsAtWalk, IsAtTask, IsConfirmed, Comes, On, Over}
use Rattle.tg_law_walks.specs.Walks.Laws.{SyncEndsAs, SyncsCome, WalksCome, SyncsComeAgain, WalksComeAgain, IsFound, SyncsBegin, SyncsFind, WalksFind, WalksFindAgain, RepliesKnow}
use Rattle.tg_law_walks.specs.Walks.Ends.{TaskEndsAs}
use Rattle.tg_law_walks.proofs.Walks.Members.{has_contained, contained_has, not_lt}
use Rattle.tg_law_walks.proofs.Walks.Cells.{more_known, fewer_known}
use Rattle.tg_law_walks.proofs.Walks.Turns.{walks_start, walks_feed, walks_again}
use Rattle.tg_law_walks.proofs.Walks.Rounds.{no_view, with_cells, more_cells, gives_up_view, starts_anew, finds, safe_unless}

pub none_num : (b : ℕ) → None ≡ Some b → ⊥
none_num b e = cc

pub some_num : (a b : ℕ) → Some a ≡ Some b → a ≡ b
some_num a b e = cc

module _ (m : Meaning) (l : Log) (byp : IsByPosition l) (linked : AreLinked l) where
  -- One after the other.

  at_walk : (r : Round m) (o : Oid) (os : List Oid) (x : Walk) → IsRound m l r (o ∷ os) → AreMore r.cells x.cells → AreKnown l x.cells → x.oid ≡ o → IsRound m l (with_cells m r x.cells) (x.oid ∷ os)
  at_walk r o os x h grows known is = subst (λ y. IsRound m l (with_cells m r x.cells) (y ∷ os)) (sym is) (more_cells m l byp r (o ∷ os) x.cells h known grows)

  -- a round after a walk that met no trim
  next_alone : (c : Client m) (w : Work m) (cells : List (ℕ × Cell)) (o : Oid) (os : List Oid) (x : Members) → IsRound m l (round m c w cells) (o ∷ os) → AreMore cells x.cells → IsExact l o w.lo w.tail x → x.gone ≡ None →
      IsRound m l (round m (takes_back m c x) (found_by m w o x) (takes_back m c x).cells) os
  next_alone c w cells o os x h grows exact none =
      finds m l byp (round m c w cells) o os x h grows exact (λ b e. absurd (none_num b (sym none ∙ e)))

  begins_as : (c : Client m) (w : Work m) (o : Oid) (os : List Oid) → IsRound m l (round m c w c.cells) (o ∷ os) → Begins l o w.lo w.tail c.cells (start_walk m c w o).to
  begins_as c w o os h = walks_start l c.stand o (lasts_of m w o) w.lo c.cells c.next w.tail byp linked (h.lists o (h.left o (contained_has (o ∷ os) o (inl refl)))) h.known

  begins_walks : (o : Oid) (lo tail : ℕ) (cells : List (ℕ × Cell)) (x : Next Walk Members) → Begins l o lo tail cells x → Walks l o lo tail cells x
  begins_walks o lo tail cells (Goes v) h = h
  begins_walks o lo tail cells (Learns v) h = absurd h
  begins_walks o lo tail cells (Ends x) h = (h.0, h.1)

  -- Syncs.

  pub syncs_come : (c : Client m) (w : Work m) (os : List Oid) → AreKnown l c.cells → ((o : Oid) → Contains c.hosted o → Contains os o) →
      ((v : View m) (o : Oid) (b : Base m) → c.view ≡ Some v → base_of m v o ≡ Some b → Contains c.hosted o) → Comes m l (syncs m c w os)
  unfolding syncs sync_start
  syncs_come c w os known hosts bases = On _ tt (record { known = known; found = refl; trims = refl; hosts = hosts; bases = bases })

  -- A walk that has ended.

  -- the rounds that can follow, by the trim that it met
  pub record IsEnded (c : Client m) (w : Work m) (o : Oid) (os : List Oid) (x : Members) (g : Option ℕ) : Type 0 where
    pub alone : g ≡ None → IsRound m l (round m c w c.cells) os
    pub low : (b : ℕ) → g ≡ Some b → gives_up m c w b ≡ false → stale m c w o x b ≡ false → IsRound m l (round m c w c.cells) os
    pub high : (b : ℕ) → g ≡ Some b → stale m c w o x b ≡ false → w.lo ≡ 0 → IsRound m l (round m (record c { view = None }) w c.cells) os
    pub anew : IsRound m l (round m (record c { view = None }) (record w { lo = 0; found = []; trims = [] }) c.cells) w.oids
    pub known : AreKnown l c.cells
    pub hosts : (o : Oid) → Contains c.hosted o → Contains w.oids o
    pub bases : (v : View m) (o : Oid) (b : Base m) → c.view ≡ Some v → base_of m v o ≡ Some b → Contains c.hosted o

  module _ (c : Client m) (w : Work m) (cells : List (ℕ × Cell)) (o : Oid) (os : List Oid) (x : Members) (h : IsRound m l (round m c w cells) (o ∷ os)) (grows : AreMore cells x.cells) (exact : IsExact l o w.lo w.tail x) where
    abbrev r : Round m
    r = round m c w cells

    abbrev d : Client m
    d = record c { cells = x.cells }

    abbrev v : Work m
    v = found_by m w o x

    view_test : (b : ℕ) (p : Bool) (y : Option (View m)) (u : View m) → p ≡ true → y ≡ Some u → (p && is_some y && nat_lt (upto_in m y) b) ≡ false → nat_lt u.upto b ≡ false
    view_test b true None u k i f = absurd (cc)
    view_test b true (Some y) u k i f = let is : y ≡ u = cc in subst (λ (z : View m). nat_lt z.upto b ≡ false) is f
    view_test b false y u k i f = absurd (cc)

    not_below : (b : ℕ) → gives_up m d v b ≡ false → (u : View m) → plays_kept m w.command ≡ true → c.view ≡ Some u → b ≤ u.upto
    not_below b g u p i = not_lt u.upto b (view_test b (plays_kept m w.command) c.view u p i g)

    gone_view : (u : View m) → None ≡ Some u → ⊥
    gone_view u i = cc

    ended : IsEnded d v o os x x.gone
    ended = record {
      alone = λ e. finds m l byp r o os x h grows exact (λ b f. absurd (none_num b (sym e ∙ f)));
      low = λ b e g s. finds m l byp r o os x h grows exact
          (λ a f. let is = some_num b a (sym e ∙ f) in
          record { safe = safe_unless m l byp r o os x h grows exact a x.cells refl f (subst (λ n. stale m d v o x n ≡ false) is s); kept = λ u p i. subst (λ n. n ≤ u.upto) is (not_below b g u p i) });
      high = λ b e s z.
          let h' = gives_up_view m l byp r (o ∷ os) z h in
          finds m l byp (no_view m r) o os x h' grows exact
          (λ a f. record { safe = safe_unless m l byp (no_view m r) o os x h' grows exact a x.cells refl f (subst (λ n. stale m d v o x n ≡ false) (some_num b a (sym e ∙ f)) s); kept = λ u p i. absurd (gone_view u i) });
      anew = starts_anew m l byp (with_cells m r x.cells) (o ∷ os) (more_cells m l byp r (o ∷ os) x.cells h exact.known grows);
      known = exact.known;
      hosts = h.hosts;
      bases = h.bases;
    }

  -- A sync that has ended.

  lo_low : (c : Client m) (x : CommandOf m) → lo_for m c x ≤ upto m c
  lo_low c (cmd.Forget o n) = omega arith
  lo_low c (cmd.Decide p) = omega arith
  lo_low c (cmd.AskAt p o q) = omega arith
  lo_low c (cmd.Rescue p) = omega arith
  lo_low c (cmd.Fate p) = by (fate_missing m c.view p)
    where
      by : (b : Bool) → zero_if m b (upto m c) ≤ upto m c
      by true = omega arith
      by false = omega arith
  lo_low c x = omega arith

  lo_whole : (c : Client m) (x : CommandOf m) → plays_kept m x ≡ false → lo_for m c x ≡ 0
  lo_whole c (cmd.AskAt p o q) e = refl
  lo_whole c (cmd.Rescue p) e = refl
  lo_whole c x e = absurd (cc)

  none_trim : (ts : List (Oid × ℕ)) (o : Oid) (b : ℕ) → ts ≡ [] → Rattle.tg_protocol.specs.Checkpoints.trim_of ts o ≡ Some b → ⊥
  none_trim ts o b is e = none_num b (sym (ap (λ (ys : List (Oid × ℕ)). Rattle.tg_protocol.specs.Checkpoints.trim_of ys o) is) ∙ e)

  confirmed_round : (c : Client m) (w : Work m) (x : Confirmed) (cells : List (ℕ × Cell)) → AreKnown l cells → IsSyncing m l (round m c w c.cells) → IsConfirmed m l (round m c w c.cells) x →
      IsRound m l (round m c (record w { tail = x.tail; lasts = x.lasts; lo = lo_for m c w.command }) cells) w.oids
  confirmed_round c w x cells known h k = record {
    known = known;
    lists = k.lists;
    upto = k.upto;
    at = k.at;
    own = k.own;
    behind = k.behind;
    low = lo_low c w.command;
    whole = lo_whole c w.command;
    only = λ o q i. absurd (has_contained [] q (subst (λ (ys : List (Oid × List ℕ)). Contains (positions_in m ys o) q) h.found i));
    above = λ o p q i. absurd (has_contained [] p (subst (λ (ys : List (Oid × List ℕ)). Contains (positions_in m ys o) p) h.found i));
    rising = subst (Rattle.tg_law_walks.specs.Walks.Rounds.AreRising m) (sym h.found) tt;
    each = λ o. subst (λ (ys : List (Oid × List ℕ)). rises 0 (positions_in m ys o) ≡ true) (sym h.found) refl;
    left = λ o i. i;
    walked = λ o i. inl i;
    trimmed = λ o b e. absurd (none_trim w.trims o b h.trims e);
    hosts = h.hosts;
    bases = h.bases;
  }

  -- Along a turn.

  abbrev pub Fits : Client m → Work m → Place m → Type 0
  Fits c w (Feeds t n rid x) = IsAtTask m l c w t × TaskEndsAs m l c w t n x
  Fits c w (Newer t n rid q) = IsAtTask m l c w t
  Fits c w (OnSync bs to) = IsSyncing m l (round m c w c.cells) × SyncEndsAs m l (round m c w c.cells) to
  Fits c w (OnWalk o os to) = (cells : List (ℕ × Cell)) × IsRound m l (round m c w cells) (o ∷ os) × Walks l o w.lo w.tail cells to
  Fits c w (Places.Over o os x g) = IsEnded c w o os x g
  Fits c w (Places.Walks os) = IsRound m l (round m c w c.cells) os
  Fits c w p = Unit {0}

  pub way : (c : Client m) (w : Work m) (p : Place m) (d : Client m) (v : Work m) (q : Place m) → Way m c w p d v q → Fits c w p → Fits d v q
  unfolding sync_start
  way c w _ _ _ _ (FeedsSync s n rid x) h = h
  way c w _ _ _ _ (FeedsWalk k os n rid x) h = (k.cells, h.0.round, subst (λ z. Walks l k.oid z w.tail k.cells (walk_feed c.stand k k.job n x c.next).to) h.0.low (walks_feed l c.stand k n x c.next w.tail byp linked h.0.walk h.1))
  way c w _ _ _ _ (NewerSync s n rid q) h = (record { known = h.known; found = h.found; trims = h.trims; hosts = h.hosts; bases = h.bases }, tt)
  way c w _ _ _ _ (NewerWalk k os n rid q) h = (k.cells, h.round, subst (λ z. Walks l k.oid z w.tail k.cells (walk_again q k c.next).to) h.low (begins_walks k.oid k.lo w.tail k.cells _ (walks_again l q k c.next w.tail byp linked h.walk)))
  way c w _ _ _ _ (Confirms bs t ls) h = confirmed_round c w (record { tail = t; lasts = ls; settled = None }) c.cells h.0.known h.0 h.1
  way c w _ _ _ _ (Settles bs t ls s) h =
      confirmed_round c w (record { tail = t; lasts = ls; settled = Some s }) (with_cell c.cells s.0 s.1) (more_known l c.cells s.0 s.1 h.0.known (h.1.settled s.0 s.1 refl)) h.0 h.1
  way c w _ _ _ _ (EndsAtOnce o os x e) h = let b = subst (Begins l o w.lo w.tail c.cells) e (begins_as c w o os h) in next_alone c w c.cells o os x h b.0 b.1 b.2
  way c w _ _ _ _ (WalkEnds o os x) h = ended c w h.0 o os x h.1 h.2.0 h.2.1
  way c w _ _ _ _ (MetNone o os x) h = h.alone refl
  way c w _ _ _ _ (MetLow o os x b e f) h = h.low b refl e f
  way c w _ _ _ _ (MetHigh o os x b e f z) h = h.high b refl f z
  way c w _ _ _ _ (StartsOver o os x b e f z) h = h.anew
  way c w _ _ _ _ x h = tt

  -- what a machine's turn comes to, of a sync or a walk
  abbrev Under : Place m → Type 0
  Under (OnSync bs to) = Unit {0}
  Under (OnWalk o os to) = Unit {0}
  Under (Places.Over o os x g) = Unit {0}
  Under (Places.Walks os) = Unit {0}
  Under p = ⊥

  record At (c : Client m) (w : Work m) (p : Place m) : Type 0 where
    pub under : Under p
    pub fits : Fits c w p

  under_way : (c : Client m) (w : Work m) (p : Place m) (d : Client m) (v : Work m) (q : Place m) → Way m c w p d v q → Under p → Under q
  under_way c w _ _ _ _ (FeedsSync s n rid x) u = tt
  under_way c w _ _ _ _ (FeedsWalk k os n rid x) u = tt
  under_way c w _ _ _ _ (NewerSync s n rid q) u = tt
  under_way c w _ _ _ _ (NewerWalk k os n rid q) u = tt
  under_way c w _ _ _ _ x u = u

  comes_ends : (c : Client m) (w : Work m) (p : Place m) (x : Moved m) → end.End m c w p x → At c w p → Comes m l x
  unfolding syncs sync_start
  comes_ends c w _ _ (end.GoesOn _ _ _ (end.SyncGoes bs s)) h = On _ tt h.fits.0
  comes_ends c w _ _ (end.GoesOn _ _ _ (end.WalkGoes o os x)) h = let b = h.fits.2 in On _ tt (record { round = at_walk (round m c w h.fits.0) o os x h.fits.1 b.2 b.3.known b.0; walk = b.3; low = b.1 })
  comes_ends c w _ _ (end.GoesOn _ _ _ (end.WalkBegins o os x e)) h =
      let b = subst (Begins l o w.lo w.tail c.cells) e (begins_as c w o os h.fits) in On _ tt (record { round = at_walk (round m c w c.cells) o os x h.fits b.2 b.3.known b.0; walk = b.3; low = b.1 })
  comes_ends c w _ _ (end.GoesOn _ _ _ x) h = absurd h.under
  comes_ends c w _ _ (end.LearnsNewer _ (end.SyncLearns bs s)) h = On _ tt h.fits.0
  comes_ends c w _ _ (end.LearnsNewer _ (end.WalkLearns o os x)) h = let b = h.fits.2 in On _ tt (record { round = at_walk (round m c w h.fits.0) o os x h.fits.1 b.2 b.3.known b.0; walk = b.3; low = b.1 })
  comes_ends c w _ _ (end.LearnsNewer _ x) h = absurd h.under
  comes_ends c w _ _ (end.Syncs d v os (end.StaleLow o ws x b e f)) h = syncs_come d v os h.fits.known h.fits.hosts h.fits.bases
  comes_ends c w _ _ (end.Syncs d v os (end.StaleHigh o ws x b e f)) h = syncs_come d v os h.fits.known h.fits.hosts (λ u p a i. absurd (none_view u i))
    where
      none_view : (u : View m) → None ≡ Some u → ⊥
      none_view u i = cc
  comes_ends c w _ _ (end.Syncs d v os x) h = absurd h.under
  comes_ends c w _ _ (end.Appends d e y ns (end.RescueDecides at so r k i)) h = absurd h.under
  comes_ends c w _ _ (end.Appends d e y ns x) h = absurd h.under
  comes_ends c w _ _ (end.Refuses d n why (end.RescueWide at e)) h = absurd h.under
  comes_ends c w _ _ (end.Refuses d n why x) h = absurd h.under
  comes_ends c w _ _ (end.Answers d n what (end.AreTrimmed b e)) h = absurd h.under
  comes_ends c w _ _ (end.Answers d n what x) h = absurd h.under
  comes_ends c w _ _ (end.Tells d ns (end.IsCopied x e)) h = absurd h.under
  comes_ends c w _ _ (end.Tells d ns x) h = absurd h.under

  comes : (c : Client m) (w : Work m) (p : Place m) → Under p → Fits c w p → Comes m l (becomes m c w p)
  comes c w p u h =
      along m At (Comes m l) comes_ends (λ d v p e y q z k. record { under = under_way d v p e y q z k.under; fits = way d v p e y q z k.fits }) (λ d v k. Over d v _ refl k.fits) c w p (record { under = u; fits = h })

  each : (objects : List Oid) (c : Client m) (w : Work m) (p : Place m) → Fits c w p → EachAt m objects (entries_of l) (IsFound m l) c w p
  each objects c w p h = each_along m objects (entries_of l) Fits (IsFound m l) way (λ d v k. k) c w p h

  -- where a walk goes on in a newer layout
  walks_on : (c : Client m) (w : Work m) (k : Walk) (os : List Oid) → IsAtWalk m l c w k os → Fits (after_turn m c (walk_again c.stand k c.next)) (met m w (walk_again c.stand k c.next)) (OnWalk k.oid os (walk_again c.stand k c.next).to)
  walks_on c w k os h = way c w _ _ _ _ (NewerWalk k os 0 0 c.stand) h

pub syncs_come_on : (m : Meaning) → SyncsCome m
unfolding task_feed
syncs_come_on m l c w s n rid x byp linked h k = comes m l byp linked _ _ (OnSync (sync_feed c.stand s s.work n x c.next).besides (sync_feed c.stand s s.work n x c.next).to) tt (h, k)

pub walks_come_on : (m : Meaning) → WalksCome m
unfolding task_feed
walks_come_on m l c w k os n rid x byp linked h e = comes m l byp linked _ _ (OnWalk k.oid os (walk_feed c.stand k k.job n x c.next).to) tt (way m l byp linked c w _ _ _ _ (FeedsWalk k os n rid x) (h, e))

pub syncs_come_again : (m : Meaning) → SyncsComeAgain m
unfolding task_again sync_start
syncs_come_again m l c w s h = On _ tt (record { known = h.known; found = h.found; trims = h.trims; hosts = h.hosts; bases = h.bases })

pub walks_come_again : (m : Meaning) → WalksComeAgain m
unfolding task_again
walks_come_again m l c w k os byp linked h = comes m l byp linked _ _ (OnWalk k.oid os (walk_again c.stand k c.next).to) tt (walks_on m l byp linked c w k os h)

pub syncs_find : (m : Meaning) → SyncsFind m
syncs_find m l objects c w s n rid x byp linked h k = each m l byp linked objects c w (Feeds (Syncing s) n rid x) (h, k)

pub walks_find : (m : Meaning) → WalksFind m
walks_find m l objects c w k os n rid x byp linked h e = each m l byp linked objects c w (Feeds (Walking k os) n rid x) (h, e)

pub walks_find_again : (m : Meaning) → WalksFindAgain m
walks_find_again m l objects c w k os byp linked h =
    each m l byp linked objects (after_turn m c (walk_again c.stand k c.next)) (met m w (walk_again c.stand k c.next)) (OnWalk k.oid os (walk_again c.stand k c.next).to) (walks_on m l byp linked c w k os h)

pub replies_know : (m : Meaning) → RepliesKnow m
replies_know m l c h = fewer_known l (keeps m c) c.cells h

pub syncs_begin : (m : Meaning) → SyncsBegin m
syncs_begin m l c w os byp linked known hosts bases = syncs_come m l byp linked c w os known hosts bases
