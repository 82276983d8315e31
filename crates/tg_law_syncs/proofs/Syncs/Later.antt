-- A settled cell of a world of the run is settled at its end, in the same layout.
use Rattle.std.proofs.Common.{◌≡◌, ℕ, ◌++◌, subst, sym}
use Rattle.tg_base.specs.Clusters.{Header}
use Rattle.tg_base.specs.declared.cell.Cell.{Cell}
use Rattle.tg_base.specs.declared.packet.Packet.{Packet}
use Rattle.tg_kind.specs.Meaning.{Meaning}
use Rattle.tg_protocol.specs.Runs.{Moves, Reaches}
use Rattle.tg_law_layouts.specs.Moves.After.{after}
use Rattle.tg_law_layouts.proofs.Moves.Members.{Has}
use Rattle.tg_law_layouts.proofs.Layouts.Deciding.{decided_stays}
use Rattle.tg_law_layouts.proofs.Layouts.Layouts.{more}
use Rattle.tg_law_cells.specs.Cells.Settled.{IsSettled}
use Rattle.tg_law_cells.proofs.Cells.Sent.{told_grows}
use Rattle.tg_law_cells.proofs.Cells.Settling.{told_by}
use Rattle.tg_law_cells.proofs.Cells.Stores.{up_to}
use Rattle.tg_law_walks.proofs.Lists.Reached.{before_reached, goes_later}

module _ (m : Meaning) (h : Header) (zs : Moves m) (r : Reaches m h zs (after m h zs)) (xs ys : Moves m) (split : zs ≡ xs ++ ys) where
  pub grow : (x : Packet) → Has (after m h xs).packets x → Has (after m h zs).packets x
  grow x g = subst (λ (us : Moves m). Has (after m h us).packets x) (sym split) (more m h xs ys x g)

  abbrev pub late : (p : ℕ) (c : Cell) → IsSettled m (after m h xs) p c → IsSettled m (after m h zs) p c
  late p c s = record {
    layout = s.layout;
    decided = (decided_stays m h xs (after m h xs) (after m h zs) (before_reached m h zs r xs ys split) (goes_later m h zs r xs ys split)).stays s.layout.epoch s.layout s.decided;
    told = λ k less. up_to (after m h zs).packets _ _ _ c (told_grows (after m h xs).packets (after m h zs).packets grow _ _ _ c (told_by _ _ _ _ c (s.told k less)));
  }
