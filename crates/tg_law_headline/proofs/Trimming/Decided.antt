-- What was settled when a client had no work, after its walk had met a trim, lies below the tail of its later commands.
use Rattle.std.proofs.Common.{◌≡◌, ℕ, ◌∷◌, ◌++◌, refl, sym, ap, ◌∙◌, subst, Some}
use Rattle.tg_base.specs.Clusters.{Header}
use Rattle.tg_base.specs.declared.ids.Oid.{Oid}
use Rattle.tg_kind.specs.Meaning.{Meaning}
use Rattle.tg_model.specs.Kinds.{EventOf}
use Rattle.tg_protocol.specs.Views.{Entries}
use Rattle.tg_protocol.specs.Walked.{Walked, walked_in}
use Rattle.tg_protocol.specs.Worlds.{start}
use Rattle.tg_protocol.specs.Runs.{Moves, Takes, Passes, Reaches, run}
use Rattle.tg_law_layouts.specs.Moves.After.{after}
use Rattle.tg_law_cells.proofs.Entries.Lists.{joined}
use Rattle.tg_law_replies.specs.History.Worlds.{entries_in}
use Rattle.tg_law_walks.proofs.Once.Nowhere.{reached}
use Rattle.tg_law_walks.proofs.Lists.Reached.{before_reached}
use Rattle.tg_law_headline.specs.Leaves.Passed.{IsIdle, WasMet, idle_world, TellsFates, IsDecidedBelow, HasDecided}
use Rattle.tg_law_headline.proofs.Leaves.Ends.{event_ends}
use Rattle.tg_law_headline.proofs.Leaves.Named.{walked_number}
use Rattle.tg_law_headline.specs.Decided.Later.{TailFollows}
use Rattle.tg_law_headline.proofs.Decided.Later.{later_tails_follow}
use Rattle.tg_law_headline.specs.Trimming.Decided.{IsDecidedIn, HasSettled, MetDecidedWhere}

module _ (m : Meaning) (h : Header) (before : Moves m) (r : Reaches m h before (after m h before)) (e : EventOf m) (k : ℕ) (y : Walked m) (is : walked_in m (after m h before) e k ≡ Some y) where
  -- the run came through the world in which the client had no work
  passes : (n : ℕ) (o : Oid) (p : ℕ) → (x : WasMet m h before n o p) → Passes m h before (idle_world m x)
  passes n o p x = record {
    before = x.came.before ++ Takes x.came.event ∷ x.until;
    after = x.since;
    split = x.came.split ∙ (ap (λ (us : Moves m). x.came.before ++ Takes x.came.event ∷ us) x.rest ∙ sym (joined x.came.before (Takes x.came.event ∷ x.until) x.since));
    is = refl;
  }

  -- it was the client whose walks end now
  same : (o : Oid) (p : ℕ) → (x : WasMet m h before y.client.num o p) → x.client ≡ k
  same o p x = sym (walked_number m h x.came.before x.came.event x.client x.end x.came.walked) ∙ (x.of ∙ walked_number m h before e k y is)

  follows : (o : Oid) (p : ℕ) → (x : WasMet m h before y.client.num o p) → TailFollows m (idle_world m x) (after m h before) y.work.tail
  follows o p x = later_tails_follow m h before (after m h before) r e k y is (idle_world m x) (passes y.client.num o p x)
      (subst (λ (j : ℕ). IsIdle m (idle_world m x) j) (same o p x) x.idle)

  pub has_decided : (es : Entries) → HasSettled m h es before y.client y.work → HasDecided m h es before y.client y.work
  has_decided es f p d o i commit needs stands x = by (f p d o i commit needs stands x)
    where
      by : IsDecidedIn m es (idle_world m x) p d → IsDecidedBelow m es p d y.work.tail
      by s = record { at = s.at; decision = s.decision; here = s.here; above = s.above; below = (follows o p x).pages s.at s.page s.settled; is_yes = s.is_yes; says = s.says; streams = s.streams }

pub met_decided_where : (m : Meaning) → MetDecidedWhere m
met_decided_where m h ms w r set before later e split =
    event_ends m h.objects (entries_in m w) (λ c x. TellsFates m x.command → HasSettled m h (entries_in m w) before c x) (λ c x. TellsFates m x.command → HasDecided m h (entries_in m w) before c x)
    (run m before (start m h)) e
    (λ k y is f t. has_decided m h before (before_reached m h ms (reached m h ms w r) before (Takes e ∷ later) split) e k y is (entries_in m w) (f t)) (set before later e split)
