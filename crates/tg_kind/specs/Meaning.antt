-- What the kinds of objects mean: their states, ops and asks, as types and functions.
use Rattle.std.specs.Prelude.{ℕ, Bool, List, Option}
use Rattle.tg_base.specs.declared.ids.Oid.{Oid}
use Rattle.tg_base.specs.declared.marks.Part.{Part}

-- All kinds of a store at once. An object's number tells its kind.
pub record Meaning : Type 1 where
  pub state : Type 0
  pub op : Type 0
  pub ask : Type 0
  pub answer : Type 0
  pub fresh : Oid → List Oid → state  -- at first, by the header's objects, which only the directory uses
  pub apply : state → op → state  -- the state after an op
  pub answers : state → ask → answer  -- the answer to an ask
  pub touch : op → Part  -- what an op changes
  pub look : ask → Part  -- what an ask looks at
  pub save : state → List ℕ  -- the bytes of a state
  pub load : Oid → List ℕ → Option state  -- the state that these bytes spell, None where they spell none of the object's kind
  pub spell : op → List ℕ  -- the bytes of an op
  pub read : Oid → List ℕ → Option op  -- the op that these bytes spell, None where they spell none of the object's kind
  pub allows : Oid → op → Bool  -- the op is of the object's kind, and a user may put it
  pub allows_ask : Oid → ask → Bool  -- the ask is of the object's kind
  pub registered : state → Oid → Bool  -- the directory lists the object
  pub floor : state → ℕ  -- the directory's floor
  pub mark_op : Oid → ℕ → op  -- the directory's op that marks an object
