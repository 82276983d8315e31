-- Tests of equality are exact.
use Rattle.std.proofs.Common.{◌≡◌, ℕ, List, [], ◌∷◌, Bool, true, false, Option, Some, None, refl, ap, ◌∙◌, subst}
use Rattle.std.specs.Prelude.{◌&&◌, ◌==◌, ℤ, pos, negsuc}
use Rattle.std.specs.Cmp.Lexicographic.{pointwise, pointwise_decides}
use Rattle.tg_base.specs.Layouts.{Layout}
use Rattle.tg_base.specs.declared.ids.NodeId.{NodeId}
use Rattle.tg_base.specs.declared.ids.Oid.{Oid}
use Rattle.tg_base.specs.declared.ids.Role.{Role}
use Rattle.tg_base.specs.declared.ids.Role.TheVariants as role
use Rattle.tg_base.specs.declared.layout.Range.{Range}
use Rattle.tg_base.specs.declared.marks.Part.{Part}
use Rattle.tg_base.specs.declared.marks.Part.TheVariants.{All, Text, Num}
use Rattle.tg_base.specs.declared.marks.StreamLink.{StreamLink}
use Rattle.tg_entry.specs.declared.entry.WriteOp.{WriteOp}
use Rattle.tg_model.specs.Verdicts.{IsSameness}
use Rattle.tg_protocol.specs.Words.{bytes_eq}
use Rattle.tg_kind.specs.Parts.{part_eq}
use Rattle.tg_base.specs.Orders.{oid_eq, role_number, node_eq}
use Rattle.tg_law_verdicts.proofs.Members.{and_both, both_and}
use Rattle.tg_law_verdicts.proofs.Tests.{same_number, number_same, same_oid, oid_same}
use Rattle.tg_law_examples.proofs.SevenKinds.{kinds, Op, Answer}
use Rattle.tg_law_examples.proofs.SevenKinds as kind
use Rattle.tg_law_examples.proofs.Sameness.{int_eq, option_eq, flag_eq, op_eq, answer_eq, same}
use Rattle.tg_law_instances.proofs.Tests.{nums_eq, links_eq, writes_eq, ranges_eq}

-- a test that says of two values whether they are the same
abbrev pub Exact : {X : Type 0} → (X → X → Bool) → Type 0
Exact {X = X} test = (a b : X) → (test a b ≡ true → a ≡ b) × (a ≡ b → test a b ≡ true)

pub exact_by : {X : Type 0} → (test : X → X → Bool) → ((a b : X) → test a b ≡ true → a ≡ b) → ((a : X) → test a a ≡ true) → Exact test
exact_by test is itself a b = (is a b, λ e. subst (λ x. test a x ≡ true) e (itself a))

pub numbers_exact : Exact (λ (x y : ℕ). x == y)
numbers_exact a b = (same_number a b, number_same a b)

pub oids_exact : Exact oid_eq
oids_exact a b = (same_oid a b, oid_same a b)

pub bytes_same : (a b : List ℕ) → bytes_eq a b ≡ true → a ≡ b
unfolding bytes_eq
bytes_same [] [] e = refl
bytes_same (x ∷ xs) [] e = absurd cc
bytes_same [] (y ∷ ys) e = absurd cc
bytes_same (x ∷ xs) (y ∷ ys) e = let b = and_both (x == y) (bytes_eq xs ys) e in ap (λ z. z ∷ xs) (same_number x y b.0) ∙ ap (λ zs. y ∷ zs) (bytes_same xs ys b.1)

pub bytes_itself : (a : List ℕ) → bytes_eq a a ≡ true
unfolding bytes_eq
bytes_itself [] = refl
bytes_itself (x ∷ xs) = both_and (x == x) (bytes_eq xs xs) (number_same x x refl) (bytes_itself xs)

pub bytes_exact : Exact bytes_eq
bytes_exact = exact_by bytes_eq bytes_same bytes_itself

pub nums_exact : Exact nums_eq
nums_exact a b = pointwise_decides numbers_exact a b

-- Ops and answers.

ints_same : (a b : ℤ) → int_eq a b ≡ true → a ≡ b
ints_same (pos a) (pos b) e = ap (λ n. pos n) (same_number a b e)
ints_same (negsuc a) (negsuc b) e = ap (λ n. negsuc n) (same_number a b e)
ints_same (pos a) (negsuc b) e = absurd cc
ints_same (negsuc a) (pos b) e = absurd cc

int_itself : (a : ℤ) → int_eq a a ≡ true
int_itself (pos a) = number_same a a refl
int_itself (negsuc a) = number_same a a refl

options_same : {X : Type 0} → (test : X → X → Bool) → Exact test → (a b : Option X) → option_eq test a b ≡ true → a ≡ b
options_same test is None None e = refl
options_same test is (Some a) (Some b) e = ap (λ x. Some x) ((is a b).0 e)
options_same test is None (Some b) e = absurd cc
options_same test is (Some a) None e = absurd cc

option_itself : {X : Type 0} → (test : X → X → Bool) → Exact test → (a : Option X) → option_eq test a a ≡ true
option_itself test is None = refl
option_itself test is (Some a) = (is a a).1 refl

flags_same : (a b : Bool) → flag_eq a b ≡ true → a ≡ b
flags_same true true e = refl
flags_same false false e = refl
flags_same true false e = absurd cc
flags_same false true e = absurd cc

flag_itself : (a : Bool) → flag_eq a a ≡ true
flag_itself true = refl
flag_itself false = refl

abbrev marks_eq : Oid × ℕ → Oid × ℕ → Bool
marks_eq x y = oid_eq x.0 y.0 && (x.1 == y.1)

marks_same : (x y : Oid × ℕ) → marks_eq x y ≡ true → x ≡ y
marks_same x y e =
    let b = and_both (oid_eq x.0 y.0) (x.1 == y.1) e in
    let o = same_oid x.0 y.0 b.0 in
    let n = same_number x.1 y.1 b.1 in
    λ i. (o i, n i)

mark_itself : (x : Oid × ℕ) → marks_eq x x ≡ true
mark_itself x = both_and (oid_eq x.0 x.0) (x.1 == x.1) (oid_same x.0 x.0 refl) (number_same x.1 x.1 refl)

ops_same : (a b : Op) → op_eq a b ≡ true → a ≡ b
ops_same (kind.Name s o) (kind.Name t p) e = let b = and_both (bytes_eq s t) (oid_eq o p) e in let x = bytes_same s t b.0 in let y = same_oid o p b.1 in λ i. kind.Name (x i) (y i)
ops_same (kind.Mark o m) (kind.Mark p n) e = let b = and_both (oid_eq o p) (m == n) e in let x = same_oid o p b.0 in let y = same_number m n b.1 in λ i. kind.Mark (x i) (y i)
ops_same (kind.Add a) (kind.Add b) e = ap (λ x. kind.Add x) (ints_same a b e)
ops_same (kind.Write s) (kind.Write t) e = ap (λ x. kind.Write x) (bytes_same s t e)
ops_same (kind.Set s u) (kind.Set t v) e = let b = and_both (bytes_eq s t) (bytes_eq u v) e in let x = bytes_same s t b.0 in let y = bytes_same u v b.1 in λ i. kind.Set (x i) (y i)
ops_same (kind.Unset s) (kind.Unset t) e = ap (λ x. kind.Unset x) (bytes_same s t e)
ops_same (kind.PushFront s) (kind.PushFront t) e = ap (λ x. kind.PushFront x) (bytes_same s t e)
ops_same (kind.PushBack s) (kind.PushBack t) e = ap (λ x. kind.PushBack x) (bytes_same s t e)
ops_same (kind.InsertAt m s) (kind.InsertAt n t) e = let b = and_both (m == n) (bytes_eq s t) e in let x = same_number m n b.0 in let y = bytes_same s t b.1 in λ i. kind.InsertAt (x i) (y i)
ops_same (kind.RemoveAt m) (kind.RemoveAt n) e = ap (λ x. kind.RemoveAt x) (same_number m n e)
ops_same kind.PopFront kind.PopFront e = refl
ops_same kind.PopBack kind.PopBack e = refl
ops_same (kind.Create s u) (kind.Create t v) e = let b = and_both (bytes_eq s t) (bytes_eq u v) e in let x = bytes_same s t b.0 in let y = bytes_same u v b.1 in λ i. kind.Create (x i) (y i)
ops_same (kind.Store s u) (kind.Store t v) e = let b = and_both (bytes_eq s t) (bytes_eq u v) e in let x = bytes_same s t b.0 in let y = bytes_same u v b.1 in λ i. kind.Store (x i) (y i)
ops_same (kind.Delete s) (kind.Delete t) e = ap (λ x. kind.Delete x) (bytes_same s t e)
ops_same (kind.Include m) (kind.Include n) e = ap (λ x. kind.Include x) (same_number m n e)
ops_same (kind.Exclude m) (kind.Exclude n) e = ap (λ x. kind.Exclude x) (same_number m n e)
ops_same a b e = absurd cc

two_texts : (s t : List ℕ) → (bytes_eq s s && bytes_eq t t) ≡ true
two_texts s t = both_and (bytes_eq s s) (bytes_eq t t) (bytes_itself s) (bytes_itself t)

op_itself : (a : Op) → op_eq a a ≡ true
op_itself (kind.Name s o) = both_and (bytes_eq s s) (oid_eq o o) (bytes_itself s) (oid_same o o refl)
op_itself (kind.Mark o n) = mark_itself (o, n)
op_itself (kind.Add a) = int_itself a
op_itself (kind.Write s) = bytes_itself s
op_itself (kind.Set s u) = two_texts s u
op_itself (kind.Unset s) = bytes_itself s
op_itself (kind.PushFront s) = bytes_itself s
op_itself (kind.PushBack s) = bytes_itself s
op_itself (kind.InsertAt n s) = both_and (n == n) (bytes_eq s s) (number_same n n refl) (bytes_itself s)
op_itself (kind.RemoveAt n) = number_same n n refl
op_itself kind.PopFront = refl
op_itself kind.PopBack = refl
op_itself (kind.Create s u) = two_texts s u
op_itself (kind.Store s u) = two_texts s u
op_itself (kind.Delete s) = bytes_itself s
op_itself (kind.Include n) = number_same n n refl
op_itself (kind.Exclude n) = number_same n n refl

answers_same : (a b : Answer) → answer_eq a b ≡ true → a ≡ b
answers_same (kind.Number a) (kind.Number b) e = ap (λ x. kind.Number x) (same_number a b e)
answers_same (kind.Signed a) (kind.Signed b) e = ap (λ x. kind.Signed x) (ints_same a b e)
answers_same (kind.Object a) (kind.Object b) e = ap (λ x. kind.Object x) (options_same oid_eq oids_exact a b e)
answers_same (kind.Words a) (kind.Words b) e = ap (λ x. kind.Words x) (options_same bytes_eq bytes_exact a b e)
answers_same (kind.Flag a) (kind.Flag b) e = ap (λ x. kind.Flag x) (flags_same a b e)
answers_same (kind.Texts a) (kind.Texts b) e = ap (λ x. kind.Texts x) ((pointwise_decides bytes_exact a b).0 e)
answers_same (kind.Numbers a) (kind.Numbers b) e = ap (λ x. kind.Numbers x) (bytes_same a b e)
answers_same (kind.Marked a) (kind.Marked b) e = ap (λ x. kind.Marked x) ((pointwise_decides (exact_by marks_eq marks_same mark_itself) a b).0 e)
answers_same a b e = absurd cc

answer_itself : (a : Answer) → answer_eq a a ≡ true
answer_itself (kind.Number a) = number_same a a refl
answer_itself (kind.Signed a) = int_itself a
answer_itself (kind.Object a) = option_itself oid_eq oids_exact a
answer_itself (kind.Words a) = option_itself bytes_eq bytes_exact a
answer_itself (kind.Flag a) = flag_itself a
answer_itself (kind.Texts a) = (pointwise_decides bytes_exact a a).1 refl
answer_itself (kind.Numbers a) = bytes_itself a
answer_itself (kind.Marked a) = (pointwise_decides (exact_by marks_eq marks_same mark_itself) a a).1 refl

pub sameness_exact : IsSameness kinds same
sameness_exact = record { ops = exact_by op_eq ops_same op_itself; answers = exact_by answer_eq answers_same answer_itself }

-- Parts, nodes, links, writes, layouts.

pub parts_same : (a b : Part) → part_eq a b ≡ true → a ≡ b
parts_same All All e = refl
parts_same (Text s) (Text t) e = ap Text ((nums_exact s t).0 e)
parts_same (Num m) (Num n) e = ap Num (same_number m n e)
parts_same All (Text t) e = absurd cc
parts_same All (Num n) e = absurd cc
parts_same (Text s) All e = absurd cc
parts_same (Text s) (Num n) e = absurd cc
parts_same (Num m) All e = absurd cc
parts_same (Num m) (Text t) e = absurd cc

pub part_itself : (a : Part) → part_eq a a ≡ true
part_itself All = refl
part_itself (Text s) = (nums_exact s s).1 refl
part_itself (Num n) = number_same n n refl

roles_same : (a b : Role) → role_number a ≡ role_number b → a ≡ b
roles_same role.Unit role.Unit e = refl
roles_same role.Layout role.Layout e = refl
roles_same role.Seqr role.Seqr e = refl
roles_same role.Client role.Client e = refl
roles_same a b e = absurd cc

pub nodes_same : (a b : NodeId) → node_eq a b ≡ true → a ≡ b
unfolding node_eq
nodes_same a b e =
    let p = and_both (role_number a.role == role_number b.role) (a.num == b.num) e in
    let r = roles_same a.role b.role (same_number (role_number a.role) (role_number b.role) p.0) in
    let n = same_number a.num b.num p.1 in
    λ i. record { role = r i; num = n i }

pub node_itself : (a b : NodeId) → a ≡ b → node_eq a b ≡ true
unfolding node_eq
node_itself a b e =
    both_and (role_number a.role == role_number b.role) (a.num == b.num) (number_same (role_number a.role) (role_number b.role) (ap (λ (x : NodeId). role_number x.role) e))
    (number_same a.num b.num (ap (λ (x : NodeId). x.num) e))

abbrev link_eq : StreamLink → StreamLink → Bool
link_eq x y = oid_eq x.oid y.oid && nums_eq x.backs y.backs

link_same : (x y : StreamLink) → link_eq x y ≡ true → x ≡ y
link_same x y e =
    let p = and_both (oid_eq x.oid y.oid) (nums_eq x.backs y.backs) e in
    let o = same_oid x.oid y.oid p.0 in
    let b = (nums_exact x.backs y.backs).0 p.1 in
    λ i. record { oid = o i; backs = b i }

link_itself : (x : StreamLink) → link_eq x x ≡ true
link_itself x = both_and (oid_eq x.oid x.oid) (nums_eq x.backs x.backs) (oid_same x.oid x.oid refl) ((nums_exact x.backs x.backs).1 refl)

pub links_exact : Exact links_eq
links_exact a b = pointwise_decides (exact_by link_eq link_same link_itself) a b

abbrev write_eq : WriteOp → WriteOp → Bool
write_eq x y = oid_eq x.oid y.oid && bytes_eq x.op y.op

write_same : (x y : WriteOp) → write_eq x y ≡ true → x ≡ y
write_same x y e =
    let p = and_both (oid_eq x.oid y.oid) (bytes_eq x.op y.op) e in
    let o = same_oid x.oid y.oid p.0 in
    let b = bytes_same x.op y.op p.1 in
    λ i. record { oid = o i; op = b i }

write_itself : (x : WriteOp) → write_eq x x ≡ true
write_itself x = both_and (oid_eq x.oid x.oid) (bytes_eq x.op x.op) (oid_same x.oid x.oid refl) (bytes_itself x.op)

pub writes_exact : Exact writes_eq
writes_exact a b = pointwise_decides (exact_by write_eq write_same write_itself) a b

abbrev range_eq : Range → Range → Bool
range_eq r s = (r.lo == s.lo) && pointwise nums_eq r.stripes s.stripes

range_same : (r s : Range) → range_eq r s ≡ true → r ≡ s
range_same r s e =
    let p = and_both (r.lo == s.lo) (pointwise nums_eq r.stripes s.stripes) e in
    let l = same_number r.lo s.lo p.0 in
    let c = (pointwise_decides nums_exact r.stripes s.stripes).0 p.1 in
    λ i. record { lo = l i; stripes = c i }

range_itself : (r : Range) → range_eq r r ≡ true
range_itself r = both_and (r.lo == r.lo) (pointwise nums_eq r.stripes r.stripes) (number_same r.lo r.lo refl) ((pointwise_decides nums_exact r.stripes r.stripes).1 refl)

pub layouts_same : (p q : Layout) → ranges_eq p q ≡ true → p ≡ q
layouts_same p q h =
    let a = (p.epoch == q.epoch) in let b = (p.seq == q.seq) in let c = (p.start == q.start) in let d = (p.by == q.by) in let f = nums_eq p.gone q.gone in
    let g = pointwise range_eq p.ranges q.ranges in
    let h1 = and_both (a && b && c && d && f) g h in
    let h2 = and_both (a && b && c && d) f h1.0 in
    let h3 = and_both (a && b && c) d h2.0 in
    let h4 = and_both (a && b) c h3.0 in
    let h5 = and_both a b h4.0 in
    let e0 = same_number p.epoch q.epoch h5.0 in
    let e1 = same_number p.seq q.seq h5.1 in
    let e2 = same_number p.start q.start h4.1 in
    let e3 = same_number p.by q.by h3.1 in
    let e4 = (nums_exact p.gone q.gone).0 h2.1 in
    let e5 = (pointwise_decides (exact_by range_eq range_same range_itself) p.ranges q.ranges).0 h1.1 in
    λ i. record { epoch = e0 i; seq = e1 i; start = e2 i; by = e3 i; gone = e4 i; ranges = e5 i }

pub layout_itself : (p q : Layout) → p ≡ q → ranges_eq p q ≡ true
layout_itself p q e = subst (λ (x : Layout). ranges_eq p x ≡ true) e (by (p.epoch == p.epoch) (p.seq == p.seq) (p.start == p.start) (p.by == p.by) (nums_eq p.gone p.gone) (pointwise range_eq p.ranges p.ranges)
    (number_same p.epoch p.epoch refl) (number_same p.seq p.seq refl) (number_same p.start p.start refl) (number_same p.by p.by refl) ((nums_exact p.gone p.gone).1 refl)
    ((pointwise_decides (exact_by range_eq range_same range_itself) p.ranges p.ranges).1 refl))
  where
    by : (a b c d f g : Bool) → a ≡ true → b ≡ true → c ≡ true → d ≡ true → f ≡ true → g ≡ true → (a && b && c && d && f && g) ≡ true
    by a b c d f g ha hb hc hd hf hg = both_and (a && b && c && d && f) g (both_and (a && b && c && d) f (both_and (a && b && c) d (both_and (a && b) c (both_and a b ha hb) hc) hd) hf) hg
