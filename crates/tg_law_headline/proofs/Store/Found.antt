-- What clients find in the step that comes after a run in which trims were spare, by the log before it.
use Rattle.std.proofs.Common.{◌≡◌, ◌⊎◌, ℕ, List, [], ◌∷◌, ◌++◌, true, refl, sym, ap, ◌∙◌, subst, inl, inr, arith, Contains, Option, Some, None, append-nil}
use Rattle.tg_base.specs.Clusters.{Header}
use Rattle.tg_base.specs.Layouts.{Layout}
use Rattle.tg_base.specs.declared.cell.Cell.{Cell}
use Rattle.tg_base.specs.declared.packet.Packet.{Packet}
use Rattle.tg_entry.specs.declared.entry.Entry.{Entry}
use Rattle.tg_kind.specs.Meaning.{Meaning}
use Rattle.tg_model.specs.Kinds.{CommandOf, EventOf}
use Rattle.tg_model.specs.declared.command.Command.TheVariants as cmd
use Rattle.tg_model.specs.declared.command.Event.TheVariants.{Command as Commands, Deliver, Lose, Tick, Stop}
use Rattle.tg_protocol.specs.Words.{client_id}
use Rattle.tg_protocol.specs.Requests.{awaits}
use Rattle.tg_protocol.specs.Replies.{reply}
use Rattle.tg_protocol.specs.Syncing.{SyncWork, Checking, Settling, Probing, Sync, sync_feed, sync_start}
use Rattle.tg_protocol.specs.Walking.{walk_feed, walk_again}
use Rattle.tg_protocol.specs.Views.{Entries}
use Rattle.tg_protocol.specs.Clients.{Task, Syncing, Walking, Appending, Trimming, Copying', Reconfiguring, Hand, Doing, Learning, Work, Client, entries_at}
use Rattle.tg_protocol.specs.ClientSteps.{task_asks, task_awaited, task_in, after_turn, met, stands}
use Rattle.tg_protocol.specs.Holding.{EntriesOwn}
use Rattle.tg_protocol.specs.Runs.{Moves, Move, Takes, Reaches, Later}
use Rattle.tg_protocol.specs.Worlds.{World, client, log}
use Rattle.tg_law_layouts.specs.Moves.After.{after}
use Rattle.tg_law_layouts.specs.Moves.Configs.{config, client_in}
use Rattle.tg_law_layouts.proofs.Moves.Members.{has_got}
use Rattle.tg_law_layouts.proofs.Moves.Moves.{Comes}
use Rattle.tg_law_cells.proofs.Cells.Justified.{awaited_ask}
use Rattle.tg_law_replies.specs.History.Worlds.{entries_in}
use Rattle.tg_law_replies.proofs.History.Members as entries
use Rattle.tg_law_replies.proofs.Views.Judges.{mine_below}
use Rattle.tg_law_replies.specs.Replies.Found.{mine, Finds}
use Rattle.tg_law_replies.specs.Replies.Runs.{InEachStep}
use Rattle.tg_law_replies.specs.Replies.Steps.{EachFeed, EachNewer, EachDelivery, EachEvent}
use Rattle.tg_law_replies.proofs.Replies.Carried.{both_more}
use Rattle.tg_law_walks.specs.Walks.Streams.{AreKnown}
use Rattle.tg_law_walks.specs.Walks.Laws.{IsFound}
use Rattle.tg_law_walks.proofs.Walks.Cells.{there_entry}
use Rattle.tg_law_walks.proofs.Walks.Rounds.{read_entry}
use Rattle.tg_law_walks.proofs.Walks.Saves.{entries_have}
use Rattle.tg_law_walks.proofs.Walks.Syncs.{logs_by_position}
use Rattle.tg_law_walks.specs.Lists.Drafted.{DraftsFit}
use Rattle.tg_law_walks.specs.Lists.Spared.{TrimsWereSpare}
use Rattle.tg_law_walks.proofs.Lists.Fits.{drafts_fit}
use Rattle.tg_law_walks.proofs.Lists.Telling.{entries_are_good}
use Rattle.tg_law_syncs.specs.Finds.Left.{IsBased, AreBegun, SavesBelow, LeftFor, PlaysFor, SavesPrecede}
use Rattle.tg_law_syncs.proofs.Finds.Rounds.{rounds_find}
use Rattle.tg_law_syncs.proofs.Known.Far.{SyncFar, SyncHeard, sync_far}
use Rattle.tg_law_syncs.proofs.Known.FarHeld.{asked_check, is_tail}
use Rattle.tg_law_syncs.proofs.Known.Reaches.{Reached, Past, Told}
use Rattle.tg_law_syncs.proofs.Exact.Exact.{step_ends}
use Rattle.tg_law_syncs.proofs.Exact.Finds.{delivery_exact, each_reply, of_client}
use Rattle.tg_law_syncs.proofs.Exact.Held.{clients_work, goes_on}
use Rattle.tg_law_syncs.proofs.Exact.Topped.{AtTail, Tops, tops_at, walked_at, sync_at}
use Rattle.tg_law_syncs.proofs.Exact.Tops.{Below, TaskKept, TaskFar, HandFar, WorkFar}

-- The steps of a run, and one more.

first : {X : Type 0} (x y : X) (xs ys : List X) → x ∷ xs ≡ y ∷ ys → x ≡ y
first x y xs ys e = cc

rest : {X : Type 0} (x y : X) (xs ys : List X) → x ∷ xs ≡ y ∷ ys → xs ≡ ys
rest x y xs ys e = cc

no_middle : {X : Type 0} (b : List X) (x : X) (a : List X) → [] ≡ b ++ x ∷ a → ⊥
no_middle [] x a e = cc
no_middle (z ∷ b) x a e = cc

-- it is one of the list's, or the last
last_or : {X : Type 0} (xs b a : List X) (y x : X) → xs ++ y ∷ [] ≡ b ++ x ∷ a → ((c : List X) × (xs ≡ b ++ x ∷ c)) ⊎ ((xs ≡ b) × (y ≡ x))
last_or [] [] a y x e = inr (refl, first y x [] a e)
last_or [] (z ∷ b) a y x e = absurd (no_middle b x a (rest y z [] (b ++ x ∷ a) e))
last_or (z ∷ xs) [] a y x e = inl (xs, ap (λ u. u ∷ xs) (first z x (xs ++ y ∷ []) a e))
last_or {X} (z ∷ xs) (u ∷ b) a y x e = by (last_or xs b a y x (rest z u (xs ++ y ∷ []) (b ++ x ∷ a) e))
  where
    head : z ≡ u
    head = first z u (xs ++ y ∷ []) (b ++ x ∷ a) e

    by : ((c : List X) × (xs ≡ b ++ x ∷ c)) ⊎ ((xs ≡ b) × (y ≡ x)) → ((c : List X) × (z ∷ xs ≡ (u ∷ b) ++ x ∷ c)) ⊎ ((z ∷ xs ≡ u ∷ b) × (y ≡ x))
    by (inl c) = inl (c.0, λ i. head i ∷ c.1 i)
    by (inr d) = inr (λ i. head i ∷ d.0 i, d.1)

module _ (m : Meaning) (h : Header) where
  same_event : (e x : EventOf m) → ◌≡◌ {A = Move m} (Takes e) (Takes x) → e ≡ x
  same_event e x i = cc

  pub each_so_far : (zs : Moves m) (e : EventOf m) (P : Moves m → World m → EventOf m → Type 0) → InEachStep m h zs P → P zs (after m h zs) e → InEachStep m h (zs ++ Takes e ∷ []) P
  each_so_far zs e P each now b a x split = by (last_or zs b a (Takes e) (Takes x) split)
    where
      by : ((c : Moves m) × (zs ≡ b ++ Takes x ∷ c)) ⊎ ((zs ≡ b) × ◌≡◌ {A = Move m} (Takes e) (Takes x)) → P b (after m h b) x
      by (inl c) = each b c.0 x c.1
      by (inr d) = subst (λ (f : EventOf m). P b (after m h b) f) (same_event e x d.1) (subst (λ (us : Moves m). P us (after m h us) e) d.0 now)

-- The last step, by the log before it.
module _ (m : Meaning) (h : Header) (zs : Moves m) (r : Reaches m h zs (after m h zs)) (trims : TrimsWereSpare m h zs) where
  abbrev w : World m
  w = after m h zs

  abbrev es : Entries
  es = entries_in m (after m h zs)

  -- the world is one of its own later ones
  itself : Later m (after m h zs) (after m h zs)
  itself = ([], goes_on m h zs r zs [] (sym (append-nil zs)))

  spare : TrimsWereSpare m h (zs ++ [])
  spare = subst (λ (ms : Moves m). TrimsWereSpare m h ms) (sym (append-nil zs)) trims

  exact_now : (e : EventOf m) → EachEvent m h.objects (entries_in m (after m h zs)) (IsFound m (log m (after m h zs))) (after m h zs) e
  unfolding itself
  exact_now (Deliver i) = λ x at is on.
      delivery_exact m (log m (after m h zs)) (logs_by_position m (after m h zs)) (entries_are_good m h zs (after m h zs) r trims) h.objects (client m (after m h zs) x.to.num) (client m (after m h zs) x.to.num).work x.from x.rid (reply x.msg) refl
      ((clients_work m h zs (after m h zs) (after m h zs) r itself spare).work x.to.num) (step_ends m h zs (after m h zs) (after m h zs) r itself spare (Deliver i) x.to.num x at (of_client x.to is))
  exact_now (Commands k x) = tt
  exact_now (Lose i) = tt
  exact_now (Tick n) = tt
  exact_now (Stop n) = tt

  -- No base of a kept view is past the tail there.

  fit : DraftsFit m (after m h zs)
  fit = drafts_fit m h zs (after m h zs) r

  module _ (precede : SavesPrecede m (entries_in m (after m h zs))) (k : ℕ) (x : Packet) (comes : Comes m (config m (after m h zs)) x (client_id k)) where
    abbrev cl : Client m
    cl = client_in m (config m (after m h zs)) k

    abbrev p : Layout
    p = (client_in m (config m (after m h zs)) k).stand

    abbrev R : Layout → ℕ → Type 0
    R q t = Reached m h zs r trims fit (config m (after m h zs)) q t

    abbrev P : Layout → ℕ → Type 0
    P q t = Past m h zs r trims fit (config m (after m h zs)) q t

    abbrev T : Layout → ℕ → (ℕ → Type 0) → Type 0
    T q rid G = Told m h zs r trims fit (config m (after m h zs)) k q rid G

    tops : Tops m h zs r trims fit precede (config m (after m h zs))
    tops = tops_at m h zs r trims fit precede zs [] (sym (append-nil zs))

    in_hand : (v : Work m) → cl.work ≡ Some v → HandFar m R P T cl v v.hand
    in_hand v works = subst (λ (o : Option (Work m)). WorkFar m R P T cl o) works (tops.clients k).work

    kept_in : (v : Work m) (d : Hand m) → HandFar m R P T cl v d → TaskKept m R P T cl v (task_in m d)
    kept_in v (Doing t) f = f.0
    kept_in v (Learning ws t) f = f

    doing : (v : Work m) (t : Task m) → cl.work ≡ Some v → v.hand ≡ Doing t → TaskKept m R P T cl v t × TaskFar m R P T cl t
    doing v t works hand = subst (λ (d : Hand m). HandFar m R P T cl v d) hand (in_hand v works)

    -- of a tail that is told the property alone
    abbrev Only : (ℕ → Type 0) → SyncWork → Type 0
    Only G s = SyncFar p (λ t. Unit {0}) (λ t. Unit {0}) (λ rid F. Unit {0}) G s

    only : (G : ℕ → Type 0) (s : SyncWork) → SyncFar p (R p) (P p) (T p) G s → Only G s
    only G (Checking rid) f = tt
    only G (Settling a j) f = (f.0, f.1, tt)
    only G (Probing a j) f = (f.0, tt)

    sync_heard : (v : Work m) (s : Sync) → cl.work ≡ Some v → v.hand ≡ Doing (Syncing s) → awaits (task_awaited m p (Syncing s)) x.from x.rid ≡ true
        → SyncHeard p (λ t. Unit {0}) (λ t. Unit {0}) (λ rid F. Unit {0}) (Below m cl.view) s x.from.num (reply x.msg) cl.next
    unfolding task_asks
    sync_heard v s works hand awaited =
        let f = (doing v (Syncing s) works hand).1 in
        record {
          tail = λ rid t ls at is.
              let a = awaited_ask (task_awaited m p (Syncing s)) x.from x.rid awaited in
              let o = asked_check p s s.work rid at a.ask a.has in
              let old = subst (λ (u : SyncWork). SyncFar p (R p) (P p) (T p) (Below m cl.view) u) at f in
              (old x comes.sent comes.to_node (sym a.to ∙ o.0) (sym a.number ∙ o.1) t ls (is_tail x.msg t ls is), tt);
          gone = λ a j b e f g i. tt;
          done = λ a j c e f g i. tt;
        }

    fed_at : (v : Work m) (t : Task m) → cl.work ≡ Some v → v.hand ≡ Doing t → awaits (task_awaited m p t) x.from x.rid ≡ true → EachFeed m h.objects es (AtTail m h.objects es) cl v t x.from.num x.rid (reply x.msg)
    fed_at v (Syncing s) works hand awaited =
        let t = sync_feed p s s.work x.from.num (reply x.msg) cl.next in
        sync_at m h.objects es p (λ t. Unit {0}) (λ t. Unit {0}) (λ rid F. Unit {0}) (after_turn m cl t) (met m v t) t.to
        (sync_far p (λ t. Unit {0}) (λ t. Unit {0}) (λ rid F. Unit {0}) (λ t le. tt) cl.next (λ rid F le. tt) (Below m cl.view) s x.from.num (reply x.msg) cl.next (sync_heard v s works hand awaited)
        (only (Below m cl.view) s.work (doing v (Syncing s) works hand).1))
    fed_at v (Walking k os) works hand awaited =
        let t = walk_feed p k k.job x.from.num (reply x.msg) cl.next in
        walked_at m h.objects es (after_turn m cl t) (met m v t) k.oid os t.to (doing v (Walking k os) works hand).0.0
    fed_at v t works hand awaited = tt

    newer_at : (v : Work m) (q : Layout) (t : Task m) → TaskKept m R P T cl v t → EachNewer m h.objects es (AtTail m h.objects es) cl v t q
    unfolding sync_start
    newer_at v q (Reconfiguring s) f = tt
    newer_at v q (Syncing s) f = tt
    newer_at v q (Walking k os) f =
        let t = walk_again q k cl.next in
        walked_at m h.objects es (after_turn m (stands m cl q) t) (met m v t) k.oid os t.to f.0
    newer_at v q (Appending a y) f = tt
    newer_at v q (Trimming s) f = tt
    newer_at v q (Copying' y) f = tt

    delivery_at : EachDelivery m h.objects es (AtTail m h.objects es) cl cl.work x.from x.rid (reply x.msg)
    delivery_at = by cl.work refl
      where
        by : (o : Option (Work m)) → cl.work ≡ o → EachDelivery m h.objects es (AtTail m h.objects es) cl o x.from x.rid (reply x.msg)
        by None works = tt
        by (Some v) works = each_reply m h.objects es (AtTail m h.objects es) cl v x.from x.rid (reply x.msg) (λ t hand awaited. fed_at v t works hand awaited) (λ q. newer_at v q (task_in m v.hand) (kept_in v v.hand (in_hand v works)))

  module _ (precede : SavesPrecede m (entries_in m (after m h zs))) where
    pub based_now : (e : EventOf m) → EachEvent m h.objects es (λ c x. IsBased m h es zs c x) (after m h zs) e
    based_now (Deliver i) = λ x at is on. delivery_at precede x.to.num x (record { sent = has_got (after m h zs).packets i x at; to_node = of_client x.to is })
    based_now (Commands k x) = tt
    based_now (Lose i) = tt
    based_now (Tick n) = tt
    based_now (Stop n) = tt

    -- So clients have found what they need.
    module _ (own : EntriesOwn m h zs (after m h zs)) where
      known_there : (cells : List (ℕ × Cell)) (ps : List ℕ) → AreKnown (log m (after m h zs)) cells → (q : ℕ) (e : Entry) → Contains (entries_at m cells ps) (q, e) → Contains es (q, e)
      known_there cells ps known q e i =
          let k = entries_have m cells ps q e (entries.has_contained (entries_at m cells ps) (q, e) i) in
          entries.contained_has es (q, e) (there_entry (log m (after m h zs)) q e (read_entry m (log m (after m h zs)) (logs_by_position m (after m h zs)) cells q e known k.1))

      begun : (c : Client m) (v : Work m) (ps : List ℕ) → IsFound m (log m (after m h zs)) c v → AreBegun m h es zs (entries_at m c.cells ps)
      begun c v ps f q e i = own q e (known_there c.cells ps f.known q e i)

      saves : (c : Client m) (v : Work m) → IsFound m (log m (after m h zs)) c v → SavesBelow m h es zs c v
      saves c v f q e o b i is =
          let less = mine_below m c v c.hosted q e (entries.has_contained (mine m c v) (q, e) i) in
          let low = precede q e o b (known_there c.cells _ f.known q e i) is in
          omega (arith, less, low)

      left_for : (c : Client m) (v : Work m) (x : CommandOf m) → IsFound m (log m (after m h zs)) c v → PlaysFor m h es zs c v x → LeftFor m h es zs c v x
      left_for c v (cmd.AskAt q o a) f k = begun c v _ f
      left_for c v (cmd.Rescue q) f k = begun c v _ f
      left_for c v x f k = record { written = begun c v _ f; based = k.based; saved = saves c v f; fits = k.fits }

      pub finds_now : (e : EventOf m) → EachEvent m h.objects es (λ c x. PlaysFor m h es zs c x x.command) (after m h zs) e → EachEvent m h.objects es (Finds m h es zs) (after m h zs) e
      finds_now e plays =
          both_more m h.objects es (IsFound m (log m (after m h zs))) (Finds m h es zs) (λ c x. PlaysFor m h es zs c x x.command)
          (λ c v f k. rounds_find m h (log m (after m h zs)) zs c v (logs_by_position m (after m h zs)) f (left_for c v v.command f k)) (after m h zs) e (exact_now e) plays
