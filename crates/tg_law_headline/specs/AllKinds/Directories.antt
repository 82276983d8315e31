-- What a kind's directory owes the laws of trims: floors and marks are what committed marks make them.
use Rattle.std.specs.Prelude.{◌≡◌, ◌≢◌, ◌⊎◌, ℕ, Bool, true, List}
use Rattle.tg_base.specs.declared.ids.Oid.{Oid}
use Rattle.tg_kind.specs.Meaning.{Meaning}
use Rattle.tg_base.specs.Parts.{is_part}
use Rattle.tg_protocol.specs.Words.{directory}
use Rattle.tg_law_replies.specs.History.Floors.{IsDirectory}

-- An object is marked by an op that marks it alone, and that no user may put; what is registered is an object; and what an
-- op touches is a part of the format.
pub record DirectoryLaws (m : Meaning) (is_object : Oid → Bool) (is_op : m.op → Bool) : Type 0 where
  pub floors : IsDirectory m is_object is_op
  pub unput : (o p : Oid) (op : m.op) (mark : ℕ) → m.allows o op ≡ true → op ≢ m.mark_op p mark
  pub apart : (o p : Oid) (a b : ℕ) → is_object o ≡ true → is_object p ≡ true → m.mark_op o a ≡ m.mark_op p b → (o ≡ p) × (a ≡ b)
  pub first_named : (os : List Oid) (o : Oid) → m.registered (m.fresh directory os) o ≡ true → is_object o ≡ true
  pub named : (s : m.state) (op : m.op) (o : Oid) → is_op op ≡ true → m.registered (m.apply s op) o ≡ true → (m.registered s o ≡ true) ⊎ (is_object o ≡ true)
  pub parts : (op : m.op) → is_op op ≡ true → is_part (m.touch op) ≡ true
