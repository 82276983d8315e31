-- What a mark of the log rests on: whoever forgot had found the object saved and decided.
use Rattle.std.proofs.Common.{◌≡◌, ℕ, ◌<◌, ◌≤◌, ◌∷◌, List, Bool, true, false, refl, sym, ap, subst, arith, Some, None, Option}
use Rattle.std.specs.Prelude.{Contains, nat_le, ◌&&◌, ◌==◌, if◌then◌else◌}
use Rattle.tg_base.specs.Clusters.{Header}
use Rattle.tg_base.specs.Orders.{oid_eq}
use Rattle.tg_base.specs.declared.ids.Oid.{Oid}
use Rattle.tg_base.specs.declared.cell.Cell.TheVariants.{Data}
use Rattle.tg_base.specs.declared.marks.Part.{Part}
use Rattle.tg_entry.specs.Needs.{needs_decision}
use Rattle.tg_entry.specs.declared.entry.Body.{Body}
use Rattle.tg_entry.specs.declared.entry.Body.TheVariants.{Commit, Decision, Checkpoint}
use Rattle.tg_entry.specs.declared.entry.Entry.{Entry}
use Rattle.tg_kind.specs.Meaning.{Meaning}
use Rattle.tg_protocol.specs.Alike.{HasEntry}
use Rattle.tg_protocol.specs.Checkpoints.{base_at, base_in, loaded}
use Rattle.tg_protocol.specs.Entries.{is_commit, lists}
use Rattle.tg_protocol.specs.Runs.{Moves, Takes, Reaches}
use Rattle.tg_protocol.specs.Versions.{Versions, based}
use Rattle.tg_protocol.specs.Views.{Base}
use Rattle.tg_protocol.specs.Worlds.{World}
use Rattle.tg_law_layouts.specs.Moves.After.{after}
use Rattle.tg_law_replies.specs.History.Worlds.{entries_in}
use Rattle.tg_law_replies.proofs.History.Members.{and_both, same_oid}
use Rattle.tg_law_replies.specs.Views.Exact.{low_of}
use Rattle.tg_law_walks.specs.Lists.Spared.{IsSaved, TrimsWereSpare}
use Rattle.tg_law_walks.proofs.Lists.Reached.{before_reached}
use Rattle.tg_law_headline.specs.Trims.Floors.{IsSettledFor, RestsOn}
use Rattle.tg_law_headline.proofs.Settled.Settled.{walks_settle}
use Rattle.tg_law_headline.specs.Origins.Origins.{CheckpointFrom, MarkFrom}
use Rattle.tg_law_headline.specs.Decisions.Decisions.{IsDecidedBy}
use Rattle.tg_law_headline.specs.Decisions.Forgetting.{IsDecidedUpTo, ForgetsDecided}
use Rattle.tg_law_headline.proofs.Decisions.Forgets.{forgets_decide}
use Rattle.tg_law_headline.specs.Joint.Joint.{JointRests, EachOwns, MarksRestWhere}
use Rattle.tg_law_replies.proofs.Replies.Reached.{at_end}
use Rattle.tg_law_headline.proofs.Joint.Lifting.{saved_late, entry_stays, front_spare, step_spare}
use Rattle.tg_law_headline.proofs.Joint.Settled.{whole_late, stood}

module _ (m : Meaning) where
  -- the checkpoint of which a base was read
  pub record ReadOf (body : Body) (o : Oid) (upto : ℕ) : Type 0 where
    pub version : ℕ
    pub whole : ℕ
    pub keys : List (Part × ℕ)
    pub state : List ℕ
    pub is : body ≡ Checkpoint o upto version whole keys state

  no_some : {X Y : Type 0} (x : X) → None ≡ Some x → Y
  no_some x e = absurd (cc)

  read_of : (o : Oid) (body : Body) (b : Base m) → base_in m o body ≡ Some b → ReadOf body o b.upto
  read_of o (Commit rs ws) b e = no_some b e
  read_of o (Decision p so) b e = no_some b e
  read_of o (Checkpoint p u version whole keys bytes) b e = by (oid_eq o p && nat_le version u) refl e
    where
      upto_or : Option (Base m) → ℕ
      upto_or None = 0
      upto_or (Some x) = x.upto

      some : (vs : Versions) (s : Option m.state) → loaded m o u vs s ≡ Some b → u ≡ b.upto
      some vs None z = no_some b z
      some vs (Some s) z = ap (λ (x : Option (Base m)). upto_or x) z

      by : (c : Bool) → (oid_eq o p && nat_le version u) ≡ c → (if c then loaded m o u (based o version whole keys) (m.load o bytes) else None) ≡ Some b → ReadOf (Checkpoint p u version whole keys bytes) o b.upto
      by true t z =
          let n : u ≡ b.upto = some (based o version whole keys) (m.load o bytes) z in
          let i : p ≡ o = sym (same_oid o p (and_both (oid_eq o p) (nat_le version u) t).0) in
          record { version = version; whole = whole; keys = keys; state = bytes; is = λ j. Checkpoint (i j) (n j) version whole keys bytes }
      by false t z = no_some b z

  read_at : (o : Oid) (e : Entry) (b : Base m) → base_at m o e ≡ Some b → ReadOf e.body o b.upto
  read_at o e b is = by (e.head.format == 2) is
    where
      by : (c : Bool) → (if c then base_in m o e.body else None) ≡ Some b → ReadOf e.body o b.upto
      by true z = read_of o e.body b z
      by false z = no_some b z

module _ (m : Meaning) (is_object : Oid → Bool) (rests : JointRests m is_object) (owns : EachOwns m) (h : Header)
    (zs : Moves m) (r : Reaches m h zs (after m h zs)) (trims : TrimsWereSpare m h zs) where
  -- The object of a checkpoint that is read off the log is settled as far as it is saved, by the epoch in which the checkpoint was.
  pub saved_whole : (o : Oid) (last mark : ℕ) (s : IsSaved m (after m h zs) o last mark) → HasEntry m (after m h zs) s.at s.entry → (s.saves.base.upto ≤ s.at) × IsSettledFor m (after m h zs) o s.saves.base.upto last
  saved_whole o last mark s here = by (read_at m o s.entry s.saves.base s.saves.is)
    where
      from : CheckpointFrom m h zs (after m h zs) s.at s.entry o s.saves.base.upto → (s.saves.base.upto ≤ s.at) × IsSettledFor m (after m h zs) o s.saves.base.upto last
      from c =
          let b = c.walk.came.before in
          let rb = before_reached m h zs r b (Takes c.walk.came.event ∷ c.walk.came.after) c.walk.came.split in
          let each = walks_settle m h b (after m h b) c.walk.came.event rb (step_spare m h zs r trims b c.walk.came.after c.walk.came.event c.walk.came.split) in
          let there = at_end m h.objects (entries_in m (after m h b)) (λ x v. (i : Oid) → Contains v.oids i → IsSettledFor m (after m h b) i v.tail x.stand.epoch) (after m h b) s.entry.head.client c.walk.came.event c.walk.end each c.walk.came.walked o c.walked in
          let low = c.follows.settled (Data s.page) s.settled in
          let time = s.in_time in (
            c.below,
            whole_late m h zs r trims b (Takes c.walk.came.event ∷ c.walk.came.after) c.walk.came.split o s.saves.base.upto c.walk.end.client.stand.epoch
                (subst (λ (n : ℕ). IsSettledFor m (after m h b) o n c.walk.end.client.stand.epoch) c.tail there) last (omega (arith, low, time)),
          )

      by : ReadOf m s.entry.body o s.saves.base.upto → (s.saves.base.upto ≤ s.at) × IsSettledFor m (after m h zs) o s.saves.base.upto last
      by k = from (rests.checkpoints h zs (after m h zs) r trims s.at s.entry o s.saves.base.upto k.version k.whole k.keys k.state here k.is)

-- So a mark rests on the checkpoint that whoever forgot had found.
module _ (m : Meaning) (is_object : Oid → Bool) (rests : JointRests m is_object) (owns : EachOwns m) (h : Header)
    (zs : Moves m) (r : Reaches m h zs (after m h zs)) (trims : TrimsWereSpare m h zs) (pos : ℕ) (e : Entry) (o : Oid) (mark : ℕ) (from : MarkFrom m h zs (after m h zs) pos e o mark) where
  -- the run before the step in which the client had walked to forget
  abbrev b : Moves m
  b = from.walk.came.before

  abbrev rest : Moves m
  rest = Takes from.walk.came.event ∷ from.walk.came.after

  abbrev last : ℕ
  last = from.walk.end.client.stand.epoch

  rb : Reaches m h from.walk.came.before (after m h from.walk.came.before)
  rb = before_reached m h zs r b rest from.walk.came.split

  tb : TrimsWereSpare m h from.walk.came.before
  tb = front_spare m h zs r trims b rest from.walk.came.split

  found : IsDecidedUpTo m (after m h from.walk.came.before) from.walk.end.client.stand.epoch o mark from.walk.end.work
  found =
      at_end m h.objects (entries_in m (after m h b)) (ForgetsDecided m (after m h b)) (after m h b) e.head.client from.walk.came.event from.walk.end
      (forgets_decide m h b (after m h b) from.walk.came.event rb tb (owns h b (after m h b) rb)) from.walk.came.walked o mark from.walk.command from.hosted from.allowed

  whole_there : (found.saved.saves.base.upto ≤ found.saved.at) × IsSettledFor m (after m h from.walk.came.before) o found.saved.saves.base.upto from.walk.end.client.stand.epoch
  whole_there = saved_whole m is_object rests owns h b rb tb o last mark found.saved found.here

  pub rests_on : RestsOn m (after m h zs) o mark pos
  rests_on = record {
    last = last;
    saved = saved_late m h zs r b rest from.walk.came.split o last mark found.saved;
    here = entry_stays m h zs r b rest from.walk.came.split trims.safe found.saved.at found.saved.entry found.here;
    below = (let a = found.below in let c = from.below in omega (arith, a, c));
    earlier = whole_there.0;
    layout = from.follows.start.layout;
    decided = from.follows.start.decided;
    past = from.follows.start.low;
    whole = whole_late m h zs r trims b rest from.walk.came.split o found.saved.saves.base.upto last whole_there.1 last (omega arith);
  }

  -- and each record of the object below the mark, from where that client's walk met a trim, was decided there
  pub decided_there : (p : ℕ) (d : Entry) → HasEntry m (after m h zs) p d → is_commit d ≡ true → needs_decision d ≡ true → lists d o ≡ true → p < mark → low_of from.walk.end.work.trims o ≤ p
      → IsDecidedBy m (after m h from.walk.came.before) from.walk.end.client.stand.epoch p d
  decided_there p d i commit needs stands less low =
      let reaches = found.saved.saves.reaches in
      found.decided p d (stood m h zs r trims b rest from.walk.came.split o found.saved.saves.base.upto last whole_there.1 p d stands (omega (arith, less, reaches)) i) commit needs stands low less

module _ (m : Meaning) where
  pub marks_rest_where : MarksRestWhere m
  marks_rest_where is_object rests owns h ms w r trims pos e x o mark object here writes to is =
      subst (λ (v : World m). Reaches m h ms v → HasEntry m v pos e → RestsOn m v o mark pos) (sym r.goes.is)
      (λ a i. rests_on m is_object rests owns h ms a trims pos e o mark (rests.marks h ms (after m h ms) a trims pos e x o mark object i writes to is)) r here
