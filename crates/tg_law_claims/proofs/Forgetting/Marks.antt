-- An object is marked only where it has a checkpoint that reaches the mark, and where each record of its stream below the mark that
-- needs a decision record has one: whoever forgot had found both, or had met a trim that came of an earlier mark.
use Rattle.std.proofs.Common.{◌≡◌, ◌⊎◌, ℕ, ◌<◌, ◌≤◌, List, [], ◌∷◌, ◌++◌, length, Bool, true, refl, sym, ap, ◌∙◌, subst, inl, inr, arith, Option, Some, None}
use Rattle.std.specs.Prelude.{Contains, not, nat_le, ◌==◌}
use Rattle.tg_base.specs.Clusters.{Header}
use Rattle.tg_base.specs.declared.ids.Oid.{Oid}
use Rattle.tg_base.specs.declared.marks.ReadMark.{ReadMark}
use Rattle.tg_entry.specs.Needs.{needs_decision, objects_of, reads_in, reads_of, writes_of}
use Rattle.tg_entry.specs.declared.entry.Body.{Body}
use Rattle.tg_entry.specs.declared.entry.Body.TheVariants.{Commit, Decision, Checkpoint}
use Rattle.tg_entry.specs.declared.entry.Entry.{Entry}
use Rattle.tg_entry.specs.declared.entry.WriteOp.{WriteOp}
use Rattle.tg_kind.specs.Meaning.{Meaning}
use Rattle.tg_dir.specs.Spellings.{is_number}
use Rattle.tg_any.specs.Anys.{is_op}
use Rattle.tg_any.specs.AllKinds.{all_kinds}
use Rattle.tg_model.specs.declared.trace.What.TheVariants as told
use Rattle.tg_protocol.specs.Words.{directory}
use Rattle.tg_protocol.specs.Alike.{HasEntry, HasDecision, MarkedBy}
use Rattle.tg_protocol.specs.Checkpoints.{trim_of}
use Rattle.tg_protocol.specs.Entries.{body_commits, decides, is_commit, lists}
use Rattle.tg_protocol.specs.Holding.{HasBasePast, MarksRest}
use Rattle.tg_protocol.specs.Logs.{history_of, op_if, ops_of}
use Rattle.tg_protocol.specs.Worlds.{World, Told, history}
use Rattle.tg_protocol.specs.Runs.{Moves, Takes, Reaches, Always}
use Rattle.tg_law_layouts.specs.Moves.After.{after}
use Rattle.tg_law_replies.specs.History.Worlds.{entries_in}
use Rattle.tg_law_replies.specs.Views.Exact.{or_first, low_of}
use Rattle.tg_law_replies.specs.Replies.Runs.{InEachStep}
use Rattle.tg_law_replies.proofs.History.Cells.{logs_rise}
use Rattle.tg_law_replies.proofs.History.History.{Made, has_made}
use Rattle.tg_law_replies.proofs.History.Members.{Has, has_contained, contained_has, and_both}
use Rattle.tg_law_walks.specs.Lists.Spared.{TrimsWereSpare}
use Rattle.tg_law_walks.proofs.Lists.Reached.{before_reached}
use Rattle.tg_law_headline.specs.Trims.Spare.{WereSpare}
use Rattle.tg_law_headline.specs.Trims.Floors.{RestsOn, StepRests}
use Rattle.tg_law_headline.specs.Decisions.Decisions.{IsDecidedBy}
use Rattle.tg_law_headline.proofs.Trimming.Meeting.{walks_meet_told_trims}
use Rattle.tg_law_headline.specs.Origins.Origins.{MarkFrom}
use Rattle.tg_law_headline.proofs.AllKinds.Holds.{kinds_have_directory}
use Rattle.tg_law_headline.proofs.Joint.Holding.{steps_hold}
use Rattle.tg_law_headline.proofs.Joint.Lifting.{decided_late}
use Rattle.tg_law_headline.proofs.Joint.Resting.{marks_rest_where, decided_there}
use Rattle.tg_law_headline.proofs.Joint.Told.{told_decided}
use Rattle.tg_law_headline.proofs.Store.Steps.{store_steps_rest}
use Rattle.tg_law_headline.proofs.Alike.Ends.{AnyFloor, any_floors}
use Rattle.tg_law_headline.proofs.Runs.Holding.{logs_hold}
use Rattle.tg_law_claims.proofs.Forgetting.Objects.{marks_object}
use Rattle.tg_law_claims.proofs.Forgetting.Resting.{objects_numbered, joints, owns, trims}
use Rattle.tg_law_claims.proofs.Forgetting.Trimmed.{saved_here}

less_or : (a b : ℕ) → (a < b) ⊎ (b ≤ a)
less_or a b = grind arith

-- a list around one of its members
record Around {X : Type 0} (xs : List X) (x : X) : Type 0 where
  before : List X
  after : List X
  split : xs ≡ before ++ x ∷ after

around : {X : Type 0} → (xs : List X) (x : X) → Has xs x → Around xs x
around [] x i = absurd i
around (y ∷ xs) x (inl e) = record { before = []; after = xs; split = ap (λ (z : _). z ∷ xs) (sym e) }
around (y ∷ xs) x (inr i) = let a = around xs x i in record { before = y ∷ a.before; after = a.after; split = ap (λ (zs : List _). y ∷ zs) a.split }

-- what needs a decision record is a commit record
commit_of : (e : Entry) → needs_decision e ≡ true → is_commit e ≡ true
unfolding needs_decision
commit_of e needs = by e.body refl
  where
    no_read : (rs : List ReadMark) → not (length rs == 0) ≡ true → rs ≡ [] → ⊥
    no_read [] n z = absurd (cc)
    no_read (x ∷ rs) n z = absurd (cc)

    none : reads_of e ≡ [] → ⊥
    none z = no_read (reads_of e) (and_both (not (length (reads_of e) == 0)) (nat_le 2 (length (objects_of e))) needs).0 z

    by : (b : Body) → e.body ≡ b → is_commit e ≡ true
    by (Commit rs ws) is = ap (λ (b : Body). body_commits b) is
    by (Decision p so) is = absurd (none (ap (λ (b : Body). reads_in b) is))
    by (Checkpoint p u version whole keys bytes) is = absurd (none (ap (λ (b : Body). reads_in b) is))

decision_is : (p : ℕ) (so : Bool) (b : Body) → decides p b ≡ Some so → b ≡ Decision p so
decision_is p so b e = grind arith

module _ (m : Meaning) where
  -- a record spells an op of an object
  record Written (ws : List WriteOp) (o : Oid) (op : m.op) : Type 0 where
    write : WriteOp
    here : Has ws write
    to : write.oid ≡ o
    is : m.read o write.op ≡ Some op

  written : (ws : List WriteOp) (o : Oid) (op : m.op) → Has (ops_of m ws) (o, op) → Written ws o op
  written [] o op i = absurd i
  written (x ∷ ws) o op i = by (m.read x.oid x.op) refl i (written ws o op)
    where
      more : Written ws o op → Written (x ∷ ws) o op
      more y = record { write = y.write; here = inr y.here; to = y.to; is = y.is }

      first : (p : m.op) → m.read x.oid x.op ≡ Some p → ◌≡◌ {A = Oid × m.op} (o, op) (x.oid, p) → Written (x ∷ ws) o op
      first p reads e =
          let to : o ≡ x.oid = ap (λ (z : Oid × m.op). z.0) e in
          record { write = x; here = inl refl; to = sym to; is = ap (λ (q : Oid). m.read q x.op) to ∙ (reads ∙ ap (λ (z : Oid × m.op). Some z.1) (sym e)) }

      by : (y : Option m.op) → m.read x.oid x.op ≡ y → Has (op_if m x.oid y (ops_of m ws)) (o, op) → (Has (ops_of m ws) (o, op) → Written ws o op) → Written (x ∷ ws) o op
      by None reads j rest = more (rest j)
      by (Some p) reads (inl e) rest = first p reads e
      by (Some p) reads (inr j) rest = more (rest j)

module _ (h : Header) (ms : Moves all_kinds) (r : Reaches all_kinds h ms (after all_kinds h ms)) where
  abbrev w : World all_kinds
  w = after all_kinds h ms

  were : TrimsWereSpare all_kinds h ms
  were = (trims h ms r).were

  steps : InEachStep all_kinds h ms (λ before u e. WereSpare all_kinds h before → StepRests all_kinds is_number is_op h.objects u e)
  steps = store_steps_rest h ms (after all_kinds h ms) r (steps_hold h ms (after all_kinds h ms) r)

  -- a record of the log marks an object
  record MarkRecord (o : Oid) (n : ℕ) : Type 0 where
    at : ℕ
    entry : Entry
    write : WriteOp
    here : HasEntry all_kinds (after all_kinds h ms) at entry
    writes : Contains (writes_of entry) write
    to : write.oid ≡ directory
    reads : all_kinds.read directory write.op ≡ Some (all_kinds.mark_op o n)

  record_of : (before : List (Told all_kinds)) (k : ℕ) (o : Oid) (n : ℕ) → MarkedBy all_kinds (after all_kinds h ms) before k o n → MarkRecord o n
  unfolding history history_of
  record_of before k o n y = record {
    at = made.at;
    entry = made.entry;
    write = x.write;
    here = contained_has (entries_in all_kinds w) (made.at, made.entry) made.here;
    writes = contained_has (writes_of made.entry) x.write x.here;
    to = x.to;
    reads = x.is;
  }
    where
      made : Made all_kinds [] (entries_in all_kinds (after all_kinds h ms)) y.done
      made = has_made all_kinds [] 0 (entries_in all_kinds (after all_kinds h ms)) y.done (logs_rise all_kinds (after all_kinds h ms)) (has_contained (history all_kinds w) y.done y.in_history)

      x : Written all_kinds (writes_of made.entry) directory (all_kinds.mark_op o n)
      x = written all_kinds (writes_of made.entry) directory (all_kinds.mark_op o n)
          (has_contained _ _ (subst (λ (d : _). Contains d.writes (directory, all_kinds.mark_op o n)) made.is y.writes))

  module _ (o : Oid) (n : ℕ) (numbered : is_number o ≡ true) (x : MarkRecord o n) where
    rests : RestsOn all_kinds (after all_kinds h ms) o n x.at
    rests = marks_rest_where all_kinds is_number joints owns h ms (after all_kinds h ms) r were x.at x.entry x.write o n numbered x.here x.writes x.to x.reads

    base_past : HasBasePast all_kinds (after all_kinds h ms) o n
    base_past = saved_here h ms r o rests.last n n (omega arith) rests.saved

    from : MarkFrom all_kinds h ms (after all_kinds h ms) x.at x.entry o n
    from = joints.marks h ms (after all_kinds h ms) r were x.at x.entry x.write o n numbered x.here x.writes x.to x.reads

    module _ (f : MarkFrom all_kinds h ms (after all_kinds h ms) x.at x.entry o n) (p : ℕ) (e : Entry) (here : HasEntry all_kinds (after all_kinds h ms) p e) (less : p < n) (stands : lists e o ≡ true) (needs : needs_decision e ≡ true) where
      -- the run before the step in which the client had walked to forget
      abbrev b : Moves all_kinds
      b = f.walk.came.before

      abbrev on : Moves all_kinds
      on = Takes f.walk.came.event ∷ f.walk.came.after

      abbrev last : ℕ
      last = f.walk.end.client.stand.epoch

      later : (epoch : ℕ) → IsDecidedBy all_kinds (after all_kinds h f.walk.came.before) epoch p e → HasDecision all_kinds (after all_kinds h ms) p
      later epoch k =
          let d = decided_late all_kinds h ms r b on f.walk.came.split were.safe epoch p e k in
          record { at = d.at; entry = d.decision; is_yes = d.is_yes; here = d.here; decides = decision_is p d.is_yes d.decision.body d.says }

      -- below a trim that the walk met
      trimmed : (low : ℕ) → trim_of f.walk.end.work.trims o ≡ Some low → p < low → HasDecision all_kinds (after all_kinds h ms) p
      trimmed low is under =
          let d = told_decided all_kinds is_number is_op kinds_have_directory joints owns h ms r were steps p e o (commit_of e needs) needs stands here (length b) b on f.walk.came.split (omega arith) last low
          (walks_meet_told_trims all_kinds h b (after all_kinds h b) (before_reached all_kinds h ms r b on f.walk.came.split) f.walk.came.event x.entry.head.client f.walk.end f.walk.came.walked o low is) under in
          later d.0 d.1

      decided_by : HasDecision all_kinds (after all_kinds h ms) p
      decided_by = by (less_or p (low_of f.walk.end.work.trims o))
        where
          met : (y : Option ℕ) → trim_of f.walk.end.work.trims o ≡ y → p < or_first y → HasDecision all_kinds (after all_kinds h ms) p
          met None is under = absurd (omega (arith, under))
          met (Some low) is under = trimmed low is under

          by : (p < low_of f.walk.end.work.trims o) ⊎ (low_of f.walk.end.work.trims o ≤ p) → HasDecision all_kinds (after all_kinds h ms) p
          by (inl under) = met (trim_of f.walk.end.work.trims o) refl under
          by (inr le) = later last (decided_there all_kinds is_number joints owns h ms r were x.at x.entry o n f p e here (commit_of e needs) needs stands less le)

  module _ (t : Told all_kinds) (o : Oid) (n : ℕ) (i : Contains w.told t) (is : t.mark.what ≡ told.Marked o n) where
    numbered : is_number o ≡ true
    numbered = objects_numbered o (marks_object all_kinds h ms r AnyFloor (any_floors all_kinds h ms) t o n (has_contained w.told t i) is)

    marked : MarkRecord o n
    marked = let a = around w.told t (has_contained w.told t i) in record_of a.before t.mark.client o n ((logs_hold h ms w r).rows.marks a.before a.after t o n a.split is)

  marks_here : MarksRest all_kinds (after all_kinds h ms)
  marks_here = record {
    based = λ t o n i is. base_past o n (numbered t o n i is) (marked t o n i is);
    decided = λ t o n p e i is here less stands needs. decided_by o n (numbered t o n i is) (marked t o n i is) (from o n (numbered t o n i is) (marked t o n i is)) p e here less stands needs;
  }

pub marks_rest : Always all_kinds (MarksRest all_kinds)
marks_rest h ms w r = subst (MarksRest all_kinds) (sym r.goes.is) (marks_here h ms (subst (Reaches all_kinds h ms) r.goes.is r))
