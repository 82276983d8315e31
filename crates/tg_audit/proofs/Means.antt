-- What kinds mean, from the members of their traits.
use Rattle.tg_kind.specs.Meaning.{Meaning}
use Rattle.tg_kind.specs.Of.{meaning_of}
use Rattle.tg_kind.specs.declared.kind.Kind as kinds
use Rattle.tg_kind.specs.declared.registry.Registry as registries

abbrev pub means : {S O Q A : Type 0} → kinds.Ghosts S O Q A → registries.Ghosts S O Q A → Meaning
means {S} {O} {Q} {A} k r = meaning_of {S = S} {O = O} {Q = Q} {A = A} (record {
  is_object = k.is_object;
  is_state = k.is_state;
  is_op = k.is_op;
  is_of = k.is_of;
  first = k.first;
  applied = k.applied;
  answered = k.answered;
  touched = k.touched;
  looked = k.looked;
  saved = k.saved;
  loaded = k.loaded;
  spelled = k.spelled;
  read = k.read;
  allowed = r.allowed;
  allowed_ask = r.allowed_ask;
  lists = r.lists;
  floor_of = r.floor_of;
  marking = r.marking;
})
