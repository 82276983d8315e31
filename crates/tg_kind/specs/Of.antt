-- What the kinds of an implementation mean, as one record, from the members of its traits.
use Rattle.std.specs.Prelude.{ℕ, Bool, ◌&&◌, ◌==◌, List, length, Option, Some, None, Result, Ok, Err, if◌then◌else◌}
use Rattle.tg_base.specs.declared.ids.Oid.{Oid}
use Rattle.tg_base.specs.declared.marks.Part.{Part}
use Rattle.tg_codec.specs.Reading.{Read}
use Rattle.tg_kind.specs.Meaning.{Meaning}

-- the state, where the bytes were read
abbrev pub loaded_by : {S : Type 0} → Result S ℕ → Option S
loaded_by (Ok s) = Some s
loaded_by (Err at) = None

-- the op, where it takes all of the bytes and is of the object's kind
abbrev pub read_by : {O : Type 0} → (O → Bool) → Read O → Option O
read_by is_of (Ok x) = if (length x.1 == 0) && is_of x.0 then Some x.0 else None
read_by is_of (Err left) = None

-- the members of the traits of kinds, by the types of states, ops, asks and answers
abbrev pub Members : Type 0 → Type 0 → Type 0 → Type 0 → Type 0
Members S O Q A = record {
  is_object : Oid → Bool;
  is_state : Oid → S → Bool;
  is_op : O → Bool;
  is_of : Oid → O → Bool;
  first : Oid → List Oid → S;
  applied : S → O → S;
  answered : S → Q → A;
  touched : O → Part;
  looked : Q → Part;
  saved : S → List ℕ;
  loaded : Oid → List ℕ → Result S ℕ;
  spelled : O → List ℕ;
  read : List ℕ → Read O;
  allowed : Oid → O → Bool;
  allowed_ask : Oid → Q → Bool;
  lists : S → Oid → Bool;
  floor_of : S → ℕ;
  marking : Oid → ℕ → O;
}

-- what an implementation K means is `meaning_of K.Registry`
abbrev pub meaning_of : {S O Q A : Type 0} → Members S O Q A → Meaning
meaning_of {S} {O} {Q} {A} k = record {
  state = S;
  op = O;
  ask = Q;
  answer = A;
  fresh = k.first;
  apply = k.applied;
  answers = k.answered;
  touch = k.touched;
  look = k.looked;
  save = k.saved;
  load = λ o bytes. loaded_by (k.loaded o bytes);
  spell = k.spelled;
  read = λ o bytes. read_by (k.is_of o) (k.read bytes);
  allows = k.allowed;
  allows_ask = k.allowed_ask;
  registered = k.lists;
  floor = k.floor_of;
  mark_op = k.marking;
}
