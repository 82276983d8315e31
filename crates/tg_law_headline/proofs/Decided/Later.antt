-- Over a run, a client that had no work in a world has drawn the numbers of all its requests since; so the tail up to which it
-- walks is new.
use Rattle.std.proofs.Common.{◌≡◌, ◌⊎◌, ℕ, ◌+◌, ◌≤◌, [], ◌∷◌, ◌++◌, Bool, true, false, refl, sym, ap, ◌∙◌, subst, inl, inr, arith, Option, Some, None, append-nil}
use Rattle.std.specs.Prelude.{◌&&◌, slice_get, if◌then◌else◌}
use Rattle.tg_base.specs.Clusters.{Header}
use Rattle.tg_base.specs.Orders.{node_eq}
use Rattle.tg_base.specs.declared.ids.NodeId.{NodeId}
use Rattle.tg_base.specs.declared.packet.Out.{Out}
use Rattle.tg_base.specs.declared.packet.Packet.{Packet}
use Rattle.tg_kind.specs.Meaning.{Meaning}
use Rattle.tg_model.specs.Kinds.{EventOf}
use Rattle.tg_model.specs.declared.command.Event.TheVariants.{Command as Commands, Deliver, Lose, Tick, Stop}
use Rattle.tg_protocol.specs.Words.{client_id}
use Rattle.tg_protocol.specs.Replies.{reply}
use Rattle.tg_protocol.specs.Clients.{Work}
use Rattle.tg_protocol.specs.Walked.{Walked, work_end, packet_end, walked_in}
use Rattle.tg_protocol.specs.Worlds.{World, client, happens, runs}
use Rattle.tg_protocol.specs.Runs.{Move, Moves, Next as Counts, Takes, Passes, Reaches}
use Rattle.tg_law_layouts.specs.Moves.After.{after}
use Rattle.tg_law_layouts.proofs.Moves.Clients.{reserved, work_reserved}
use Rattle.tg_law_layouts.proofs.Moves.Members.{Has, has_got}
use Rattle.tg_law_replies.proofs.History.Members.{and_both}
use Rattle.tg_law_walks.proofs.Drafts.Written.{then_next, then_takes}
use Rattle.tg_law_walks.proofs.Once.Along.{on_moves}
use Rattle.tg_law_walks.proofs.Once.Nowhere.{reached}
use Rattle.tg_law_cells.specs.Places.Order.{IsPlace, Confirmed, PastPage}
use Rattle.tg_law_cells.proofs.Places.Order.{points_precede_places}
use Rattle.tg_law_headline.proofs.Spans.Turns as turns
use Rattle.tg_law_headline.proofs.Spans.Snapshots as spans
use Rattle.tg_law_headline.specs.Decided.Later.{TailFollows, LaterTailsFollow}
use Rattle.tg_law_headline.proofs.Decided.Ending.{AtTail, deliver_tail}

same_node : (a b : NodeId) → node_eq a b ≡ true → a ≡ b
unfolding node_eq
same_node a b h = grind arith

module _ (m : Meaning) (h : Header) (zs : Moves m) (reach : Reaches m h zs (after m h zs)) (us vs : Moves m) (begins : zs ≡ us ++ vs) (k : ℕ) (idle : (client m (after m h us) k).work ≡ None) where
  pub record Since (w : World m) : Type 0 where
    pub next : spans.first m h zs reach us vs begins k ≤ (client m w k).next
    pub asks : spans.AllNew m h zs reach us vs begins k (client m w k)
    pub told : spans.IsTrue m h zs reach us vs begins (client m w k)

  starts : Since (after m h us)
  starts = record {
    next = omega arith;
    asks = λ o i. absurd (subst (λ (z : Option (Work m)). Has (work_reserved m (client m (after m h us) k).stand z) o) idle i);
    told = subst (λ (z : Option (Work m)). turns.WorkTold m (spans.SyncOk m h zs reach us vs begins) (spans.IsNew m h zs reach us vs begins) (spans.starts_ok m h zs reach us vs begins) (client m (after m h us) k).stand z) (sym idle) tt;
  }

  takes : (xs : Moves m) (e : EventOf m) (rest : Moves m) → zs ≡ xs ++ Takes e ∷ rest → Since (after m h xs) → Since (happens m (after m h xs) e)
  takes xs e rest split s = record {
    next = (let a = s.next in let b = made.next in omega (arith, a, b));
    asks = λ o i. by o (made.asks o i);
    told = made.told s.asks s.told;
  }
    where
      made : spans.Steps m h zs reach us vs begins k (client m (after m h xs) k) (client m (happens m (after m h xs) e) k)
      made = spans.steps m h zs reach us vs begins xs (Takes e ∷ rest) split e k

      by : (o : Out) → Has (reserved m (client m (after m h xs) k)) o ⊎ ((client m (after m h xs) k).next ≤ o.rid) → spans.first m h zs reach us vs begins k ≤ o.rid
      by o (inl i) = s.asks o i
      by o (inr le) = let a = s.next in omega (arith, a, le)

  on_move : (xs : Moves m) (x : Move m) (rest : Moves m) → zs ≡ xs ++ x ∷ rest → Since (after m h xs) → Since (after m h (xs ++ x ∷ []))
  on_move xs Counts rest e s = subst Since (sym (then_next m h xs)) (record { next = s.next; asks = s.asks; told = s.told })
  on_move xs (Takes x) rest e s = subst Since (sym (then_takes m h xs x)) (takes xs x rest e s)

  here : Since (after m h zs)
  here = subst (λ (ms : Moves m). Since (after m h ms)) (sym begins)
      (on_moves m h zs reach (λ (ms : Moves m). Since (after m h ms)) on_move us vs [] (begins ∙ ap (λ (ms : Moves m). us ++ ms) (sym (append-nil vs))) starts)

  -- so wherever a further step comes to the end of its walks
  abbrev Tailed : Option (Walked m) → Type 0
  Tailed o = AtTail m (spans.SyncOk m h zs reach us vs begins) (spans.IsNew m h zs reach us vs begins) (spans.starts_ok m h zs reach us vs begins) o

  handed : (i : ℕ) (o : Option Packet) → slice_get (after m h zs).packets i ≡ o → Tailed (packet_end m (after m h zs) k o)
  handed i None is = tt
  handed i (Some p) is = by (node_eq p.to (client_id k) && runs m (after m h zs) p.to) refl
    where
      by : (b : Bool) → (node_eq p.to (client_id k) && runs m (after m h zs) p.to) ≡ b → Tailed (if b then work_end m (client m (after m h zs) k) (client m (after m h zs) k).work p.from p.rid (reply p.msg) else None)
      by false t = tt
      by true t =
          deliver_tail m (spans.SyncOk m h zs reach us vs begins) (spans.IsNew m h zs reach us vs begins) (spans.starts_ok m h zs reach us vs begins) (client m (after m h zs) k) p.from p.rid p.msg here.told
          (spans.hears_all m h zs reach us vs begins zs [] (sym (append-nil zs)) k p
          (record { sent = has_got (after m h zs).packets i p is; to_node = same_node p.to (client_id k) (and_both (node_eq p.to (client_id k)) (runs m (after m h zs) p.to) t).0 }) here.asks here.told)

  pub new_tail : (e : EventOf m) (end : Walked m) → walked_in m (after m h zs) e k ≡ Some end → IsPlace m (after m h us) (after m h zs) end.work.tail
  new_tail e end is = subst Tailed is (by e)
    where
      by : (x : EventOf m) → Tailed (walked_in m (after m h zs) x k)
      by (Deliver i) = handed i (slice_get (after m h zs).packets i) refl
      by (Commands n x) = tt
      by (Lose i) = tt
      by (Tick n) = tt
      by (Stop n) = tt

module _ (m : Meaning) where
  follows : (h : Header) (ms : Moves m) (u v : World m) (tail : ℕ) → Reaches m h ms v → Passes m h ms u → IsPlace m u v tail → TailFollows m u v tail
  follows h ms u v tail r x place = record {
    place = place;
    pages = λ pos page s. let a = points_precede_places m h ms u v r x (pos + 1) tail (PastPage pos page s) place in omega (arith, a);
    tails = λ epoch t s. points_precede_places m h ms u v r x t tail (Confirmed epoch t s) place;
  }

  pub later_tails_follow : LaterTailsFollow m
  later_tails_follow h ms w r e k end is u x idle = follows h ms u w end.work.tail r x
      (subst (λ (y : World m). IsPlace m y w end.work.tail) (sym x.is)
      (subst (λ (y : World m). walked_in m y e k ≡ Some end → IsPlace m (after m h x.before) y end.work.tail) (sym r.goes.is)
      (new_tail m h ms (reached m h ms w r) x.before x.after x.split k (subst (λ (y : World m). (client m y k).work ≡ None) x.is idle) e end) is))
