-- What all kinds of objects mean, as one.
use Rattle.tg_kind.specs.Meaning.{Meaning}
use Rattle.tg_kind.specs.Of.{meaning_of}
use Rattle.tg_any.specs.declared.any.AnyKind.{AnyKind}
use Rattle.tg_any.specs.declared.any.AnyOp.{AnyOp}
use Rattle.tg_any.specs.declared.any.AnyAsk.{AnyAsk}
use Rattle.tg_any.specs.declared.any.AnyAns.{AnyAns}
use Rattle.tg_any.specs.Anys as any

abbrev pub all_kinds : Meaning
all_kinds = meaning_of {S = AnyKind} {O = AnyOp} {Q = AnyAsk} {A = AnyAns} (record {
  is_object = any.is_object;
  is_state = any.is_state;
  is_op = any.is_op;
  is_of = any.is_of;
  first = any.first;
  applied = any.applied;
  answered = any.answered;
  touched = any.touched;
  looked = any.looked;
  saved = any.saved;
  loaded = any.loaded;
  spelled = any.spelled;
  read = any.read;
  allowed = any.allowed;
  allowed_ask = any.allowed_ask;
  lists = any.lists_object;
  floor_of = any.floor_of;
  marking = any.marking;
})
