-- A token that was given up has no page in the log.
use Rattle.std.proofs.Common.{◌≡◌, ℕ, Contains, List, [], refl, sym, ◌∙◌, subst, inl, inr, arith}
use Rattle.tg_base.specs.Layouts.{Layout}
use Rattle.tg_base.specs.Clusters.{Header}
use Rattle.tg_base.specs.declared.cell.Cell.TheVariants.{Data}
use Rattle.tg_kind.specs.Meaning.{Meaning}
use Rattle.tg_protocol.specs.Worlds.{World}
use Rattle.tg_protocol.specs.Runs.{Moves, Reaches, Later, Always, run}
use Rattle.tg_law_layouts.specs.Moves.After.{after}
use Rattle.tg_law_layouts.proofs.Layouts.Deciding.{K, known}
use Rattle.tg_law_cells.specs.Cells.Chains.{ToldUpTo}
use Rattle.tg_law_cells.specs.Cells.Settled.{head}
use Rattle.tg_law_cells.proofs.Cells.Settles.{Line as Facts}
use Rattle.tg_law_cells.proofs.Cells.Settling.{facts, told_here, told_by, one_is_settled}
use Rattle.tg_law_cells.proofs.Cells.Successors.{words}
use Rattle.tg_law_cells.specs.Homes.Homes.{Home}
use Rattle.tg_law_cells.proofs.Homes.Homes.{settled_has_home}
use Rattle.tg_law_cells.specs.Entries.Archive.{AlwaysBySafeTrims}
use Rattle.tg_law_cells.proofs.Entries.Archive.{log_is_settled}
use Rattle.tg_law_walks.specs.Once.GivenUp.{IsLost, IsGivenUp, PagesKept, LogKept}
use Rattle.tg_law_walks.proofs.Once.Reached.{header, give}

module _ (m : Meaning) where
  -- a world is later than itself
  itself : (h : Header) (xs : Moves m) (w : World m) → Reaches m h xs w → Later m w w
  unfolding run
  itself h xs w r = ([], record { lawful = λ x i. absurd (none i); is = refl; few = r.goes.few })
    where
      none : {X : Type 0} {x : X} → Contains [] x → ⊥
      none i = let l = i.1 in omega (arith, l)

  pub reached : (h : Header) (ms : Moves m) (v : World m) → Reaches m h ms v → Reaches m h ms (after m h ms)
  reached h ms v r = subst (Reaches m h ms) r.goes.is r

module _ (m : Meaning) (h : Header) (xs : Moves m) (reach : Reaches m h xs (after m h xs)) where
  line : Facts words (K m h xs) (after m h xs).packets
  line = facts m h xs (header m h xs reach) (give m h xs reach) (told_here m h xs (header m h xs reach) (give m h xs reach))

  -- the first unit of an epoch's chain tells one cell at a position
  not_lost : (e p : ℕ) (d : List ℕ) (q : Layout) → K m h xs q → q.epoch ≡ e → ToldUpTo (after m h xs).packets (head q p) e p (Data d) → IsLost m (after m h xs) e p d → ⊥
  not_lost e p d q k of told l =
      let same = line.once l.layout q (known m h xs l.layout.epoch l.layout l.decided).0 k (l.of ∙ sym of) in
      let a = told_by (after m h xs).packets (head q p) e p l.cell (subst (λ (r : Layout). ToldUpTo (after m h xs).packets (head r p) e p l.cell) same l.told) in
      let b = told_by (after m h xs).packets (head q p) e p (Data d) told in
      l.other (sym a.cell ∙ (line.one (head q p) a.claim b.claim a.tells b.tells (a.pos ∙ sym b.pos) ∙ b.cell))

  pub kept_here : PagesKept m (after m h xs)
  kept_here p d s = record { home = home; kept = by }
    where
      home : Home m (after m h xs) p d s.layout.epoch
      home = settled_has_home m h xs (after m h xs) reach p d s

      by : IsGivenUp m (after m h xs) home.epoch p d → ⊥
      by (inl l) = not_lost home.epoch p d home.layout (known m h xs home.layout.epoch home.layout home.decided).0 home.of home.told l
      by (inr (inl o)) = let a = home.past o.layout o.decided o.later in let b = o.start in absurd (omega (arith, a, b))
      by (inr (inr f)) = f.other (one_is_settled m h xs (after m h xs) (after m h xs) reach (itself m h xs (after m h xs) reach) p f.cell (Data d) f.settled s)

module _ (m : Meaning) where
  pub given_up_is_nowhere : Always m (PagesKept m)
  given_up_is_nowhere h ms v r = subst (PagesKept m) (sym r.goes.is) (kept_here m h ms (reached m h ms v r))

  pub log_has_no_given_up : AlwaysBySafeTrims m (LogKept m)
  log_has_no_given_up h ms v r safe p d i = let s = (log_is_settled m h ms v r safe).settled p (Data d) i in (s.layout.epoch, given_up_is_nowhere h ms v r p d s)
