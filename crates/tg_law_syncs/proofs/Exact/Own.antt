-- Entries were begun by their clients where checkpoints were.
use Rattle.std.proofs.Common.{◌≡◌, ◌⊎◌, ℕ, ◌++◌, refl, subst, inl, inr, arith}
use Rattle.tg_base.specs.Clusters.{Header}
use Rattle.tg_entry.specs.declared.entry.Body.{Body}
use Rattle.tg_entry.specs.declared.entry.Body.TheVariants.{Commit, Decision, Checkpoint}
use Rattle.tg_entry.specs.declared.entry.Entry.{Entry}
use Rattle.tg_entry.specs.Format.{tag_of}
use Rattle.tg_kind.specs.Meaning.{Meaning}
use Rattle.tg_protocol.specs.Alike.{HasEntry}
use Rattle.tg_protocol.specs.Holding.{WasBegun}
use Rattle.tg_protocol.specs.Runs.{Moves, Reaches}
use Rattle.tg_law_layouts.specs.Moves.After.{after}
use Rattle.tg_law_walks.proofs.Drafts.Drafts.{records_were_begun}
use Rattle.tg_law_walks.proofs.Lists.Reached.{before_reached}
use Rattle.tg_law_syncs.specs.Exact.Finds.{SavesWereOwn, PassesOwnWhere}

-- a body saves an object, or doesn't
saves_or_not : (b : Body) → (tag_of b ≡ 3) ⊎ (tag_of b ≡ 3 → ⊥)
saves_or_not (Commit rs ws) = inr (λ i. omega (arith, i))
saves_or_not (Decision at is_yes) = inr (λ i. omega (arith, i))
saves_or_not (Checkpoint o upto version whole keys state) = inl refl

module _ (m : Meaning) where
  begun : (h : Header) (ms before rest : Moves m) → Reaches m h ms (after m h ms) → ms ≡ before ++ rest → SavesWereOwn m h ms → (p : ℕ) (e : Entry) → HasEntry m (after m h before) p e → WasBegun m h before e
  begun h ms before rest r split saves p e has = by (saves_or_not e.body)
    where
      by : (tag_of e.body ≡ 3) ⊎ (tag_of e.body ≡ 3 → ⊥) → WasBegun m h before e
      by (inl so) = saves before rest split p e has so
      by (inr f) = records_were_begun m h before (after m h before) (before_reached m h ms r before rest split) p e has f

  pub passes_own : PassesOwnWhere m
  passes_own h ms w r saves before rest split = begun h ms before rest (subst (Reaches m h ms) r.goes.is r) split saves
