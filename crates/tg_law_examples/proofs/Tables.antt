-- Single tables, computed.
use Rattle.std.proofs.Common.{◌≡◌, ℕ, List, [], ◌∷◌, refl, Some}
use Rattle.tg_base.specs.Layouts.{Layout}
use Rattle.tg_base.specs.declared.msg.Msg.{Msg}
use Rattle.tg_base.specs.declared.msg.Msg.TheVariants as msg
use Rattle.tg_protocol.specs.Words.{bytes_eq, cell_eq, client_id}
use Rattle.tg_proj.specs.Places.{range_number}
use Rattle.tg_protocol.specs.Layouts.{chain_of}
use Rattle.tg_protocol.specs.Units.{UnitState, new_unit, unit_ask, on_ask, unit_step, first_missing}
use Rattle.tg_protocol.specs.LayoutServers.{new_layout, layout_ask, on_layout_ask, layout_step}
use Rattle.tg_protocol.specs.Sequencers.{new_seqr, seqr_step}
use Rattle.tg_law_examples.proofs.Shown.{obj}

-- A unit: one page at four positions, and a trim between them.

after : List Msg → UnitState → UnitState
after [] s = s
after (x ∷ xs) s = after xs (unit_step s x).now

page : List ℕ
page = 7 ∷ []

trimmed_unit : UnitState
trimmed_unit = after (msg.Write 1 0 page ∷ msg.Write 1 63 page ∷ msg.Write 1 64 page ∷ msg.Write 1 127 page ∷ msg.Trim 1 64 ∷ []) new_unit

whole : (unit_step trimmed_unit (msg.Has 1 0 65 1)).says ≡ Some msg.Whole
unfolding trimmed_unit after page new_unit unit_ask on_ask unit_step first_missing cell_eq bytes_eq
whole = refl

missing : (unit_step trimmed_unit (msg.Has 1 0 128 1)).says ≡ Some (msg.Missing 65)
unfolding trimmed_unit after page new_unit unit_ask on_ask unit_step first_missing cell_eq bytes_eq
missing = refl

gone : (unit_step trimmed_unit (msg.Read 1 63)).says ≡ Some (msg.Gone 64)
unfolding trimmed_unit after page new_unit unit_ask on_ask unit_step first_missing cell_eq bytes_eq
gone = refl

high : trimmed_unit.high ≡ 128
unfolding trimmed_unit after page new_unit unit_ask on_ask unit_step first_missing cell_eq bytes_eq
high = refl

-- A seal, and what it fences.
sealed : (unit_step trimmed_unit (msg.Seal 2)).says ≡ Some (msg.Sealed 2 128)
unfolding trimmed_unit after page new_unit unit_ask on_ask unit_step first_missing cell_eq bytes_eq
sealed = refl

fenced : (unit_step (unit_step trimmed_unit (msg.Seal 2)).now (msg.Write 1 130 page)).says ≡ Some (msg.Fenced 2)
unfolding trimmed_unit after page new_unit unit_ask on_ask unit_step first_missing cell_eq bytes_eq
fenced = refl

-- Where positions stand: three stripes from 10, and an empty range.

striped : Layout
striped = record {
  epoch = 2;
  seq = 0;
  start = 10;
  by = 0;
  gone = [];
  ranges =
      record { lo = 0; stripes = (0 ∷ []) ∷ [] }
      ∷ record { lo = 10; stripes = (1 ∷ []) ∷ (2 ∷ []) ∷ (3 ∷ []) ∷ [] } ∷ [];
}

second_stripe : chain_of striped 14 ≡ 2 ∷ []
unfolding striped chain_of
second_stripe = refl

first_stripe : chain_of striped 10 ≡ 1 ∷ []
unfolding striped chain_of
first_stripe = refl

twice : Layout
twice = record {
  epoch = 3;
  seq = 0;
  start = 10;
  by = 0;
  gone = [];
  ranges =
      record { lo = 0; stripes = (0 ∷ []) ∷ [] } ∷ record { lo = 10; stripes = (1 ∷ []) ∷ [] } ∷ record { lo = 10; stripes = (2 ∷ []) ∷ [] } ∷ [];
}

below_ten : range_number twice.ranges 9 ≡ 0
unfolding twice
below_ten = refl

from_ten : range_number twice.ranges 10 ≡ 2
unfolding twice
from_ten = refl

-- A layout server: the first epoch isn't voted on, and a lesser ballot is refused.

first_epoch : (layout_step (new_layout striped) (msg.Prepare 1 (record { round = 1; client = 0 }))).says ≡ Some (msg.Latest striped)
unfolding new_layout layout_ask on_layout_ask layout_step
first_epoch = refl

lesser : (layout_step (layout_step (new_layout striped) (msg.Prepare 3 (record { round = 1; client = 1 }))).now (msg.Prepare 3 (record { round = 1; client = 0 }))).says
    ≡ Some (msg.Nack 3 (record { round = 1; client = 1 }))
unfolding new_layout layout_ask on_layout_ask layout_step
lesser = refl

-- A sequencer: a token of another epoch, and the first position.

old_epoch : (seqr_step (new_seqr 1 100 striped) (client_id 0) 1 (msg.Token 2 (obj 16777216 ∷ []))).sends ≡ record { to = client_id 0; rid = 1; msg = msg.OldEpoch 0 } ∷ []
unfolding new_seqr seqr_step striped
old_epoch = refl
