-- The seven kinds of objects by their tables, for the worked runs.
use Rattle.std.specs.Prelude.{ℕ, zero, suc, ◌+◌, ◌/◌, ◌%◌, Bool, true, false, not, ◌&&◌, ◌||◌, ◌==◌, nat_lt, nat_le, min, max, List, [], ◌∷◌, ◌++◌, map, length, slice_get, filter, remove, insert, drop, take, reverse, ◌^◌, ◌-◌, ℤ, pos, negsuc, ◌+ℤ◌, Option, Some, None, if◌then◌else◌}
use Rattle.std.specs.List.{list_any}
use Rattle.tg_base.specs.declared.ids.Oid.{Oid}
use Rattle.tg_base.specs.declared.marks.Part.{Part}
use Rattle.tg_base.specs.declared.marks.Part.TheVariants.{All, Text, Num}
use Rattle.tg_kind.specs.Meaning.{Meaning}
use Rattle.tg_protocol.specs.Words.{bytes_eq, bytes_lt, has_num, with_num, directory}
use Rattle.tg_base.specs.Orders.{oid_eq}
use Rattle.tg_law_examples.proofs.Bytes.{number, all_of, text_bytes, Taken, and_then, num, text, oid, counted}

-- a name of the directory
pub record Named : Type 0 where
  pub name : List ℕ
  pub oid : Oid
  pub mark : ℕ

pub data State : Type 0 where
  Dir : List Named → (floor : ℕ) → State
  Ctr : ℤ → State
  Reg : Option (List ℕ) → State
  Map : List (List ℕ × List ℕ) → State
  Lst : List (List ℕ) → State
  Tree : List (List ℕ × Option (List ℕ)) → State  -- rising by path
  Nums : List ℕ → State  -- rising

pub data Op : Type 0 where
  Name : List ℕ → Oid → Op
  Mark : Oid → ℕ → Op
  Add : ℤ → Op
  Write : List ℕ → Op
  Set : (key value : List ℕ) → Op
  Unset : (key : List ℕ) → Op
  PushFront : List ℕ → Op
  PushBack : List ℕ → Op
  InsertAt : ℕ → List ℕ → Op
  RemoveAt : ℕ → Op
  PopFront : Op
  PopBack : Op
  Create : (path text : List ℕ) → Op
  Store : (path text : List ℕ) → Op
  Delete : (path : List ℕ) → Op
  Include : ℕ → Op
  Exclude : ℕ → Op

pub data Ask : Type 0 where
  Find : List ℕ → Ask
  Marks : Ask
  Floor : Ask
  Value : Ask
  TextOf : Ask
  Get : List ℕ → Ask
  Size : Ask
  Keys : Ask
  ItemAt : ℕ → Ask
  Len : Ask
  Items : Ask
  DataOf : List ℕ → Ask
  HasPath : List ℕ → Ask
  Children : List ℕ → Ask
  Member : ℕ → Ask
  Count : ℕ → ℕ → Ask
  Between : ℕ → ℕ → Ask

pub data Answer : Type 0 where
  Number : ℕ → Answer
  Signed : ℤ → Answer
  Object : Option Oid → Answer
  Words : Option (List ℕ) → Answer
  Flag : Bool → Answer
  Texts : List (List ℕ) → Answer
  Numbers : List ℕ → Answer
  Marked : List (Oid × ℕ) → Answer

abbrev pub tag_of : Oid → ℕ
tag_of o = o.0 / 16777216

abbrev pub index_of : Oid → ℕ
index_of o = o.0 % 16777216

-- Names.

abbrev pub digits : ℕ → ℕ → List ℕ
digits zero n = []
digits (suc k) n = elim (nat_lt n 10) as (λ _. List ℕ) [ true ↦ (48 + n) ∷ [] | false ↦ digits k (n / 10) ++ (48 + n % 10) ∷ [] ]

abbrev pub kind_word : ℕ → List ℕ
kind_word t = if t == 0 then 100 ∷ 105 ∷ 114 ∷ [] else (if t == 1 then 99 ∷ 116 ∷ 114 ∷ [] else (if t == 2 then 114 ∷ 101 ∷ 103 ∷ []
    else (if t == 3 then 109 ∷ 97 ∷ 112 ∷ [] else (if t == 4 then 108 ∷ 105 ∷ 115 ∷ 116 ∷ []
    else (if t == 5 then 116 ∷ 114 ∷ 101 ∷ 101 ∷ [] else 115 ∷ 101 ∷ 116 ∷ [])))))

abbrev pub named : Oid → Named
named o = record { name = kind_word (tag_of o) ++ digits 8 (index_of o); oid = o; mark = 0 }

-- The tables.

abbrev pub fresh : Oid → List Oid → State
fresh o os = if tag_of o == 0 then Dir (named directory ∷ map named os) 0 else (if tag_of o == 1 then Ctr (pos 0) else (if tag_of o == 2 then Reg None
    else (if tag_of o == 3 then Map [] else (if tag_of o == 4 then Lst [] else (if tag_of o == 5 then Tree ((47 ∷ [], None) ∷ []) else Nums [])))))

abbrev pub has_name : List ℕ → Oid → List Named → Bool
has_name t o ns = list_any (λ (n : Named). bytes_eq n.name t || oid_eq n.oid o) ns

abbrev pub has_oid : Oid → List Named → Bool
has_oid o ns = list_any (λ (n : Named). oid_eq n.oid o) ns

abbrev pub marked : Oid → ℕ → Named → Named
marked o k n = if oid_eq n.oid o then record n { mark = k } else n

abbrev pub mark_in : Oid → List Named → ℕ
mark_in o [] = 0
mark_in o (n ∷ ns) = if oid_eq n.oid o then n.mark else mark_in o ns

abbrev pub least : List Named → ℕ
least [] = 0
least (n ∷ []) = n.mark
least (n ∷ k ∷ ns) = min n.mark (least (k ∷ ns))

abbrev pub floored : List Named → ℕ → State
floored ns f = Dir ns (max f (least ns))

abbrev pub with_pair : List ℕ → List ℕ → List (List ℕ × List ℕ) → List (List ℕ × List ℕ)
with_pair k v [] = (k, v) ∷ []
with_pair k v (x ∷ xs) = if bytes_eq x.0 k then (k, v) ∷ xs else x ∷ with_pair k v xs

abbrev pub without_key : List ℕ → List (List ℕ × List ℕ) → List (List ℕ × List ℕ)
without_key k ps = filter (λ (x : List ℕ × List ℕ). not (bytes_eq x.0 k)) ps

abbrev pub without_last : List (List ℕ) → List (List ℕ)
without_last ts = take (length ts - 1) ts

-- Paths.

abbrev pub Paths : Type 0
Paths = List (List ℕ × Option (List ℕ))

abbrev pub has_path : List ℕ → Paths → Bool
has_path p ps = list_any (λ (x : List ℕ × Option (List ℕ)). bytes_eq x.0 p) ps

-- a path backwards, without its last name
abbrev pub cut : List ℕ → List ℕ
cut [] = []
cut (b ∷ bs) = if b == 47 then bs else cut bs

abbrev pub name_back : List ℕ → List ℕ
name_back [] = []
name_back (b ∷ bs) = if b == 47 then [] else b ∷ name_back bs

abbrev pub or_root : List ℕ → List ℕ
or_root [] = 47 ∷ []
or_root (b ∷ bs) = b ∷ bs

abbrev pub parent : List ℕ → List ℕ
parent p = or_root (reverse (cut (reverse p)))

abbrev pub last_name : List ℕ → List ℕ
last_name p = reverse (name_back (reverse p))

abbrev pub is_root : List ℕ → Bool
is_root p = bytes_eq p (47 ∷ [])

abbrev pub is_child : List ℕ → List ℕ × Option (List ℕ) → Bool
is_child p x = not (is_root x.0) && bytes_eq (parent x.0) p

abbrev pub with_path : List ℕ → Option (List ℕ) → Paths → Paths
with_path p t [] = (p, t) ∷ []
with_path p t (x ∷ xs) = if bytes_eq x.0 p then (p, t) ∷ xs else (if bytes_lt p x.0 then (p, t) ∷ x ∷ xs else x ∷ with_path p t xs)

abbrev pub data_of : List ℕ → Paths → Option (List ℕ)
data_of p [] = None
data_of p (x ∷ xs) = if bytes_eq x.0 p then x.1 else data_of p xs

abbrev pub child_name : List ℕ × Option (List ℕ) → List ℕ
child_name x = last_name x.0

abbrev pub apply : State → Op → State
apply (Dir ns f) (Name t o) = if has_name t o ns then Dir ns f else Dir (ns ++ record { name = t; oid = o; mark = 0 } ∷ []) f
apply (Dir ns f) (Mark o k) = if has_oid o ns && nat_lt (mark_in o ns) k then floored (map (marked o k) ns) f else Dir ns f
apply (Ctr n) (Add k) = Ctr (n +ℤ k)
apply (Reg t) (Write u) = Reg (Some u)
apply (Map ps) (Set k v) = Map (with_pair k v ps)
apply (Map ps) (Unset k) = Map (without_key k ps)
apply (Lst ts) (PushFront t) = Lst (t ∷ ts)
apply (Lst ts) (PushBack t) = Lst (ts ++ t ∷ [])
apply (Lst ts) (InsertAt i t) = if nat_le i (length ts) then Lst (insert ts i t) else Lst ts
apply (Lst ts) (RemoveAt i) = if nat_lt i (length ts) then Lst (remove ts i) else Lst ts
apply (Lst ts) PopFront = Lst (drop 1 ts)
apply (Lst ts) PopBack = Lst (without_last ts)
apply (Tree ps) (Create p t) = if has_path p ps || not (has_path (parent p) ps) then Tree ps else Tree (with_path p (Some t) ps)
apply (Tree ps) (Store p t) = if has_path p ps then Tree (with_path p (Some t) ps) else Tree ps
apply (Tree ps) (Delete p) = if is_root p || list_any (is_child p) ps then Tree ps else Tree (filter (λ (x : List ℕ × Option (List ℕ)). not (bytes_eq x.0 p)) ps)
apply (Nums ns) (Include n) = Nums (with_num n ns)
apply (Nums ns) (Exclude n) = Nums (filter (λ k. not (k == n)) ns)
apply s _ = s

abbrev pub found : List ℕ → List Named → Option Oid
found t [] = None
found t (n ∷ ns) = if bytes_eq n.name t then Some n.oid else found t ns

abbrev pub value_of : List ℕ → List (List ℕ × List ℕ) → Option (List ℕ)
value_of k [] = None
value_of k (x ∷ xs) = if bytes_eq x.0 k then Some x.1 else value_of k xs

abbrev pub mark_pair : Named → Oid × ℕ
mark_pair n = (n.oid, n.mark)

abbrev pub key_of : List ℕ × List ℕ → List ℕ
key_of p = p.0

abbrev pub answer : State → Ask → Answer
answer (Dir ns f) (Find t) = Object (found t ns)
answer (Dir ns f) Floor = Number f
answer (Dir ns f) Marks = Marked (map mark_pair ns)
answer (Ctr n) Value = Signed n
answer (Reg t) TextOf = Words t
answer (Map ps) Size = Number (length ps)
answer (Map ps) Keys = Texts (map key_of ps)
answer (Lst ts) (ItemAt i) = Words (slice_get ts i)
answer (Lst ts) Items = Texts ts
answer (Tree ps) (DataOf p) = Words (data_of p ps)
answer (Tree ps) (HasPath p) = Flag (has_path p ps)
answer (Tree ps) (Children p) = Texts (map child_name (filter (is_child p) ps))
answer (Nums ns) (Member n) = Flag (has_num n ns)
answer (Nums ns) (Count l h) = Number (length (filter (λ n. nat_le l n && nat_lt n h) ns))
answer (Nums ns) (Between l h) = Numbers (filter (λ n. nat_le l n && nat_lt n h) ns)
answer (Map ps) (Get k) = Words (value_of k ps)
answer (Lst ts) Len = Number (length ts)
answer s _ = Words None

abbrev pub touch : Op → Part
touch (Name t o) = Text t
touch (Set k v) = Text k
touch (Unset k) = Text k
touch (Create p t) = Text p
touch (Store p t) = Text p
touch (Delete p) = Text p
touch (Include n) = Num n
touch (Exclude n) = Num n
touch _ = All

abbrev pub look : Ask → Part
look (Find t) = Text t
look (Get k) = Text k
look (DataOf p) = Text p
look (HasPath p) = Text p
look (Member n) = Num n
look _ = All

abbrev pub op_tag : Op → ℕ
op_tag (Name t o) = 0
op_tag (Mark o k) = 0
op_tag (Add n) = 1
op_tag (Write t) = 2
op_tag (Set k v) = 3
op_tag (Unset k) = 3
op_tag (Create p t) = 5
op_tag (Store p t) = 5
op_tag (Delete p) = 5
op_tag (Include n) = 6
op_tag (Exclude n) = 6
op_tag _ = 4

abbrev pub may_put : Op → Bool
may_put (Mark o k) = false
may_put _ = true

abbrev pub ask_tag : Ask → ℕ
ask_tag (Find t) = 0
ask_tag Floor = 0
ask_tag Value = 1
ask_tag Marks = 0
ask_tag TextOf = 2
ask_tag (Get k) = 3
ask_tag Size = 3
ask_tag Keys = 3
ask_tag (ItemAt i) = 4
ask_tag Len = 4
ask_tag Items = 4
ask_tag (DataOf p) = 5
ask_tag (HasPath p) = 5
ask_tag (Children p) = 5
ask_tag _ = 6

-- Bytes.

-- two's complement
abbrev pub signed_bytes : ℤ → List ℕ
signed_bytes (pos n) = number 8 n
signed_bytes (negsuc n) = number 8 (2 ^ 64 - 1 - n)

abbrev pub signed : ℕ → ℤ
signed n = if nat_lt n (2 ^ 63) then pos n else negsuc (2 ^ 64 - 1 - n)

abbrev pub spell : Op → List ℕ
spell (Name t o) = 0x01 ∷ text_bytes t ++ number 4 o.0
spell (Mark o k) = 0x02 ∷ number 4 o.0 ++ number 8 k
spell (Add n) = 0x10 ∷ signed_bytes n
spell (Write t) = 0x20 ∷ text_bytes t
spell (Set k v) = 0x30 ∷ text_bytes k ++ text_bytes v
spell (Unset k) = 0x31 ∷ text_bytes k
spell (PushFront t) = 0x40 ∷ text_bytes t
spell (PushBack t) = 0x41 ∷ text_bytes t
spell (InsertAt i t) = 0x42 ∷ number 4 i ++ text_bytes t
spell (RemoveAt i) = 0x43 ∷ number 4 i
spell PopFront = 0x44 ∷ []
spell PopBack = 0x45 ∷ []
spell (Create p t) = 0x50 ∷ text_bytes p ++ text_bytes t
spell (Store p t) = 0x51 ∷ text_bytes p ++ text_bytes t
spell (Delete p) = 0x52 ∷ text_bytes p
spell (Include n) = 0x60 ∷ number 8 n
spell (Exclude n) = 0x61 ∷ number 8 n

-- a text, two texts, a number of so many bytes, and what they make
abbrev pub of_text : (List ℕ → Op) → List ℕ → Option Op
of_text f bs = and_then (text bs) (λ t r. Some (f t))

abbrev pub of_texts : (List ℕ → List ℕ → Op) → List ℕ → Option Op
of_texts f bs = and_then (text bs) (λ t r. and_then (text r) (λ u q. Some (f t u)))

abbrev pub of_num : ℕ → (ℕ → Op) → List ℕ → Option Op
of_num w f bs = and_then (num w bs) (λ n r. Some (f n))

abbrev pub op_among : ℕ → List ℕ → List (ℕ × (List ℕ → Option Op)) → Option Op
op_among code bs [] = None
op_among code bs (x ∷ xs) = elim (x.0 == code) as (λ _. Option Op) [ true ↦ x.1 bs | false ↦ op_among code bs xs ]

-- the op whose code this is
abbrev pub op_by : ℕ → List ℕ → Option Op
op_by code bs = op_among code bs (
    (0x01, λ b. and_then (text b) (λ t r. and_then (oid r) (λ o q. Some (Name t o))))
    ∷ (0x02, λ b. and_then (oid b) (λ o r. and_then (num 8 r) (λ k q. Some (Mark o k))))
    ∷ (0x10, of_num 8 (λ n. Add (signed n))) ∷ (0x20, of_text Write) ∷ (0x30, of_texts Set) ∷ (0x31, of_text Unset)
    ∷ (0x40, of_text PushFront) ∷ (0x41, of_text PushBack)
    ∷ (0x42, λ b. and_then (num 4 b) (λ i r. and_then (text r) (λ t q. Some (InsertAt i t))))
    ∷ (0x43, of_num 4 RemoveAt) ∷ (0x44, λ b. Some PopFront) ∷ (0x45, λ b. Some PopBack)
    ∷ (0x50, of_texts Create) ∷ (0x51, of_texts Store) ∷ (0x52, of_text Delete)
    ∷ (0x60, of_num 8 Include) ∷ (0x61, of_num 8 Exclude) ∷ [])

abbrev pub op_if : Oid → Option Op → Option Op
op_if o None = None
op_if o (Some op) = if op_tag op == tag_of o then Some op else None

abbrev pub read : Oid → List ℕ → Option Op
read o [] = None
read o (code ∷ bs) = op_if o (op_by code bs)

abbrev pub named_bytes : Named → List ℕ
named_bytes n = text_bytes n.name ++ number 4 n.oid.0 ++ number 8 n.mark

abbrev pub pair_bytes : List ℕ × List ℕ → List ℕ
pair_bytes p = text_bytes p.0 ++ text_bytes p.1

abbrev pub maybe_bytes : Option (List ℕ) → List ℕ
maybe_bytes None = 0 ∷ []
maybe_bytes (Some t) = 1 ∷ text_bytes t

abbrev pub path_bytes : List ℕ × Option (List ℕ) → List ℕ
path_bytes x = text_bytes x.0 ++ maybe_bytes x.1

abbrev pub save : State → List ℕ
save (Dir ns f) = 0 ∷ number 4 (length ns) ++ all_of named_bytes ns ++ number 8 f
save (Ctr n) = 1 ∷ signed_bytes n
save (Reg t) = 2 ∷ maybe_bytes t
save (Map ps) = 3 ∷ number 4 (length ps) ++ all_of pair_bytes ps
save (Lst ts) = 4 ∷ number 4 (length ts) ++ all_of text_bytes ts
save (Tree ps) = 5 ∷ number 4 (length ps) ++ all_of path_bytes ps
save (Nums ns) = 6 ∷ number 4 (length ns) ++ all_of (number 8) ns

abbrev pub named_in : List ℕ → Taken Named
named_in bs = and_then (text bs) (λ t r. and_then (oid r) (λ o q. and_then (num 8 q) (λ k p. Some (record { name = t; oid = o; mark = k }, p))))

abbrev pub pair_in : List ℕ → Taken (List ℕ × List ℕ)
pair_in bs = and_then (text bs) (λ k r. and_then (text r) (λ v q. Some ((k, v), q)))

abbrev pub maybe_by : ℕ → List ℕ → Taken (Option (List ℕ))
maybe_by n bs = if n == 0 then Some (None, bs) else and_then (text bs) (λ t r. Some (Some t, r))

abbrev pub maybe_in : List ℕ → Taken (Option (List ℕ))
maybe_in bs = and_then (num 1 bs) maybe_by

abbrev pub path_in : List ℕ → Taken (List ℕ × Option (List ℕ))
path_in bs = and_then (text bs) (λ p r. and_then (maybe_in r) (λ t q. Some ((p, t), q)))

abbrev pub load_by : ℕ → List ℕ → Option State
load_by tag bs =
    if tag == 0 then and_then (counted 4 named_in bs) (λ ns r. and_then (num 8 r) (λ f q. Some (Dir ns f)))
    else (if tag == 1 then and_then (num 8 bs) (λ n r. Some (Ctr (signed n)))
    else (if tag == 2 then and_then (maybe_in bs) (λ t r. Some (Reg t))
    else (if tag == 3 then and_then (counted 4 pair_in bs) (λ ps r. Some (Map ps))
    else (if tag == 4 then and_then (counted 4 text bs) (λ ts r. Some (Lst ts))
    else (if tag == 5 then and_then (counted 4 path_in bs) (λ ps r. Some (Tree ps))
    else and_then (counted 4 (num 8) bs) (λ ns r. Some (Nums ns)))))))

abbrev pub load : Oid → List ℕ → Option State
load o [] = None
load o (tag ∷ bs) = if tag == tag_of o then load_by tag bs else None

abbrev pub is_registered : State → Oid → Bool
is_registered (Dir ns f) o = has_oid o ns
is_registered _ o = false

abbrev pub floor_of : State → ℕ
floor_of (Dir ns f) = f
floor_of _ = 0

abbrev pub kinds : Meaning
kinds = record {
  state = State;
  op = Op;
  ask = Ask;
  answer = Answer;
  fresh = fresh;
  apply = apply;
  answers = answer;
  touch = touch;
  look = look;
  save = save;
  load = load;
  spell = spell;
  read = read;
  allows = λ o op. (op_tag op == tag_of o) && may_put op;
  allows_ask = λ o q. ask_tag q == tag_of o;
  registered = is_registered;
  floor = floor_of;
  mark_op = Mark;
}
