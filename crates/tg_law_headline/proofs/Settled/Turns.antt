-- Through each of a client's turns: what its walks have settled so far, and what its kept view rests on.
use Rattle.std.proofs.Common.{◌≡◌, ◌⊎◌, ℕ, ◌<◌, ◌≤◌, List, [], ◌∷◌, Bool, true, false, refl, sym, ◌∙◌, subst, inl, inr, arith, Option, Some, None}
use Rattle.std.specs.Prelude.{Contains}
use Rattle.tg_base.specs.Layouts.{Layout}
use Rattle.tg_base.specs.declared.cell.Cell.{Cell}
use Rattle.tg_base.specs.declared.ids.Oid.{Oid}
use Rattle.tg_base.specs.declared.marks.StreamLink.{StreamLink}
use Rattle.tg_kind.specs.Meaning.{Meaning}
use Rattle.tg_model.specs.declared.command.Command.TheVariants as cmd
use Rattle.tg_model.specs.Kinds.{CommandOf}
use Rattle.tg_protocol.specs.Words.{cell_at}
use Rattle.tg_protocol.specs.Requests.{Next, Goes, Ends}
use Rattle.tg_protocol.specs.Syncing.{Confirmed}
use Rattle.tg_protocol.specs.Walking.{Walk, Members}
use Rattle.tg_protocol.specs.Views.{View}
use Rattle.tg_protocol.specs.Logs.{Log}
use Rattle.tg_protocol.specs.Clients.{Task, Syncing, Walking, Hand, Doing, Learning, Work, Client, upto, upto_in}
use Rattle.tg_protocol.specs.Answers.{with_view}
use Rattle.tg_protocol.specs.ClientSteps.{start_walk, lasts_of, lo_for, zero_if, fate_missing, plays_kept}
use Rattle.tg_protocol.specs.Worlds.{World}
use Rattle.tg_law_walks.specs.Walks.Streams.{AreKnown}
use Rattle.tg_law_walks.specs.Walks.Lists.{backs}
use Rattle.tg_law_walks.specs.Walks.Walks.{AreMore}
use Rattle.tg_law_walks.proofs.Walks.Cells.{known_at}
use Rattle.tg_law_walks.proofs.Walks.Members.{contained_has}
use Rattle.tg_law_syncs.specs.Settling.Visits.{IsFull, AreFull, Visits, IsIssuedTo}
use Rattle.tg_law_syncs.proofs.Settling.Visiting.{walks_visit}
use Rattle.tg_law_syncs.proofs.Known.Ways.{played_view}
use Rattle.tg_law_headline.proofs.Settled.Rounds.{Course, course, SavedTo, IsKept, IsRounded, IsAtWalk, visit_of, more_cells, all_settled}
use Rattle.tg_law_headline.proofs.Settled.Checks.{SyncBy}

-- Of a world's issued positions: what is settled in an epoch or before, which tails of an epoch are confirmed; and of a layout,
-- the tails and lists that its sequencer told for some streams, and the tails that are confirmed if they were told.
module _ (m : Meaning) (v : World m) (S : ℕ → ℕ → Type 0) (Tl : ℕ → ℕ → Type 0) (Told : Layout → List Oid → ℕ → List StreamLink → Type 0) (Sure : Layout → ℕ → Type 0) where
  -- the command leaves the kept view alone, or the client hosts all streams that it walks
  abbrev pub IsOwn : List Oid → Work m → Type 0
  IsOwn hosted w = (plays_kept m w.command ≡ false) ⊎ ((o : Oid) → Contains w.oids o → Contains hosted o)

  abbrev pub LearnOk : ℕ → List Oid → Work m → Task m → Type 0
  LearnOk n hosted w (Syncing s) = (s.oids ≡ w.oids) × IsOwn hosted w
  LearnOk n hosted w (Walking k os) = IsOwn hosted w × IsAtWalk m v S Tl n (course m w) k os
  LearnOk n hosted w t = Unit {0}

  abbrev pub TaskOk : ℕ → Layout → List Oid → Work m → Task m → Type 0
  TaskOk n p hosted w (Syncing s) = (s.oids ≡ w.oids) × IsOwn hosted w × SyncBy (Told p s.oids) (Sure p) s.work
  TaskOk n p hosted w (Walking k os) = IsOwn hosted w × IsAtWalk m v S Tl n (course m w) k os
  TaskOk n p hosted w t = Unit {0}

  abbrev pub HandOk : ℕ → Layout → List Oid → Work m → Hand m → Type 0
  HandOk n p hosted w (Doing t) = TaskOk n p hosted w t
  HandOk n p hosted w (Learning ws t) = LearnOk n hosted w t

  abbrev pub WorkOk : ℕ → Layout → List Oid → Option (Work m) → Type 0
  WorkOk n p hosted None = Unit {0}
  WorkOk n p hosted (Some w) = HandOk n p hosted w w.hand

  pub record IsSettling (n : ℕ) (c : Client m) : Type 0 where
    pub kept : IsKept m v S Tl n c
    pub work : WorkOk n c.stand c.hosted c.work

  -- where all streams are walked, the hosted ones are among them, and the view is played no further than the tail
  pub record IsAtEnd (c : Client m) (w : Work m) : Type 0 where
    pub hosts : (o : Oid) → Contains c.hosted o → Contains w.oids o
    pub played : (played_view m c w).upto ≤ w.tail

  -- a walk ends at a trim only where all below it is settled
  abbrev pub MeetsBy : ℕ → Next Walk Members → Type 0
  MeetsBy n (Ends x) = (b q : ℕ) → x.gone ≡ Some b → q < b → S n q
  MeetsBy n _ = Unit {0}

none_num : (b : ℕ) → None ≡ Some b → ⊥
none_num b e = cc

some_same : {X : Type 0} (a b : X) → Some a ≡ Some b → a ≡ b
some_same a b e = cc

-- A turn that begins in an epoch, by the log that its client has read.
module _ (m : Meaning) (v : World m) (S : ℕ → ℕ → Type 0) (Tl : ℕ → ℕ → Type 0) (Told : Layout → List Oid → ℕ → List StreamLink → Type 0) (Sure : Layout → ℕ → Type 0)
    (l : Log) (n : ℕ) (settles : (q : ℕ) (c : Cell) → cell_at l q ≡ Some c → S n q) (full : (e t : ℕ) → Tl e t → AreFull l (IsIssuedTo m v e) t)
    (ends : (p : Layout) (os : List Oid) (t : ℕ) (ls : List StreamLink) → Told p os t ls → Sure p t → Tl p.epoch t × ((o : Oid) → Contains os o → IsFull (IsIssuedTo m v p.epoch o) t (backs o ls)))
    (joins : (o : Oid) (u : ℕ) → SavedTo m v S Tl n o u → (e t q : ℕ) → Tl e t → IsIssuedTo m v e o q → q < t → q < u → S n q) where
  abbrev pub Kept : Client m → Type 0
  Kept c = IsKept m v S Tl n c

  abbrev pub Own : List Oid → Work m → Type 0
  Own hosted w = IsOwn m v S Tl Told Sure hosted w

  abbrev pub Round : ℕ → Work m → List (ℕ × Cell) → List Oid → Type 0
  Round e w cells os = IsRounded m v S Tl n e (course m w) cells os

  pub no_view : (c : Client m) → Kept (record c { view = None })
  no_view c x o is i = absurd (by x is)
    where
      by : (x : View m) → None ≡ Some x → ⊥
      by x e = cc

  -- Where all streams are walked.

  -- each stream that was walked is settled up to the tail
  pub saved : (c : Client m) (w : Work m) (e : ℕ) → AreKnown l c.cells → Round e w c.cells [] → (o : Oid) → Contains w.oids o → (u : ℕ) → u ≤ w.tail → SavedTo m v S Tl n o u
  saved c w e known h o i u le = record {
    epoch = e;
    up_to = h.heading.up_to;
    tail = w.tail;
    confirmed = h.heading.confirmed;
    within = le;
    settled = λ q j less. all_settled m v S Tl n e (course m w) c.cells (λ p d is. settles p d (known_at l c.cells known p d is)) h o i q j (omega (arith, le, less));
  }

  pub played_kept : (c : Client m) (w : Work m) (e : ℕ) → AreKnown l c.cells → Round e w c.cells [] → IsAtEnd m v S Tl Told Sure c w → Kept (with_view m c (played_view m c w))
  played_kept c w e known h at x o is i = subst (λ (y : View m). SavedTo m v S Tl n o y.upto) (some_same (played_view m c w) x is) (saved c w e known h o (at.hosts o i) (played_view m c w).upto at.played)

  -- Walks.

  pub begins_as : (c : Client m) (w : Work m) (e : ℕ) (o : Oid) (os : List Oid) → AreKnown l c.cells → Round e w c.cells (o ∷ os) → Visits l (IsIssuedTo m v e) o w.lo w.tail c.cells (start_walk m c w o).to
  begins_as c w e o os known h = walks_visit m v e l c.stand o (lasts_of m w o) w.lo c.cells c.next w.tail (full e w.tail h.heading.confirmed) (h.heading.lists o (h.left o (contained_has (o ∷ os) o (inl refl)))) known

  at_walk : (r : Course) (e : ℕ) (cells : List (ℕ × Cell)) (o : Oid) (os : List Oid) (x : Walk) → IsRounded m v S Tl n e r cells (o ∷ os) → x.oid ≡ o → AreMore cells x.cells → IsRounded m v S Tl n e r x.cells (x.oid ∷ os)
  at_walk r e cells o os x h is grows = subst (λ (y : Oid). IsRounded m v S Tl n e r x.cells (y ∷ os)) (sym is) (more_cells m v S Tl n e r cells x.cells (o ∷ os) grows h)

  -- a walk goes on
  pub on_walk_ok : (r : Course) (e : ℕ) (cells : List (ℕ × Cell)) (o : Oid) (os : List Oid) (x : Walk) → IsRounded m v S Tl n e r cells (o ∷ os) → Visits l (IsIssuedTo m v e) o r.lo r.tail cells (Goes x) → IsAtWalk m v S Tl n r x os
  on_walk_ok r e cells o os x h b = record { epoch = e; round = at_walk r e cells o os x h b.0 b.2; visit = visit_of m v S Tl l e r.tail x b.3; low = b.1 }

  pub meets_none : (x : Members) → x.gone ≡ None → (b q : ℕ) → x.gone ≡ Some b → q < b → S n q
  meets_none x none b q is less = absurd (none_num b (sym none ∙ is))

  -- Syncs.

  lo_low : (c : Client m) (x : CommandOf m) → lo_for m c x ≤ upto m c
  lo_low c (cmd.Forget o p) = omega arith
  lo_low c (cmd.Decide p) = omega arith
  lo_low c (cmd.AskAt p o q) = omega arith
  lo_low c (cmd.Rescue p) = omega arith
  lo_low c (cmd.Fate p) = by (fate_missing m c.view p)
    where
      by : (b : Bool) → zero_if m b (upto m c) ≤ upto m c
      by true = omega arith
      by false = omega arith
  lo_low c x = omega arith

  lo_whole : (c : Client m) (x : CommandOf m) → plays_kept m x ≡ false → lo_for m c x ≡ 0
  lo_whole c (cmd.AskAt p o q) e = refl
  lo_whole c (cmd.Rescue p) e = refl
  lo_whole c x e = absurd (cc)

  -- below where a command walks, its kept view rests on what is settled
  pub below_lo : (c : Client m) (w : Work m) (e t : ℕ) → Own c.hosted w → Kept c → Tl e t → (o : Oid) → Contains w.oids o → (q : ℕ) → IsIssuedTo m v e o q → q < t → q < lo_for m c w.command → S n q
  below_lo c w e t own k tail o i q s less low = by own
    where
      under : (y : Option (View m)) → c.view ≡ y → Contains c.hosted o → q < upto_in m y → S n q
      under None f j u = absurd (omega (arith, u))
      under (Some y) f j u = joins o y.upto (k y o f j) e t q tail s less u

      by : Own c.hosted w → S n q
      by (inl f) = absurd (let z = lo_whole c w.command f in omega (arith, low, z))
      by (inr f) = under c.view refl (f o i) (let a = lo_low c w.command in omega (arith, low, a))

  abbrev pub confirmed_work : Client m → Work m → Confirmed → Work m
  confirmed_work c w x = record w { tail = x.tail; lasts = x.lasts; lo = lo_for m c w.command }

  -- a tail is confirmed, with its lists
  pub confirmed_round : (c : Client m) (w : Work m) (os : List Oid) (x : Confirmed) (cells : List (ℕ × Cell)) → c.stand.epoch ≤ n → os ≡ w.oids → Own c.hosted w → Kept c → Told c.stand os x.tail x.lasts → Sure c.stand x.tail
      → Round c.stand.epoch (confirmed_work c w x) cells w.oids
  confirmed_round c w os x cells le same own k t s =
      let g = ends c.stand os x.tail x.lasts t s in
      record {
        heading = record {
          up_to = le;
          confirmed = g.0;
          lists = λ o i. g.1 o (subst (λ (ys : List Oid). Contains ys o) (sym same) i);
          below = λ o i q j less low. below_lo c w c.stand.epoch x.tail own k g.0 o i q j less low;
        };
        left = λ o i. i;
        walked = λ o i. inl i;
      }
