-- Lines of a text that comes piece by piece.
use Rattle.std.proofs.Common.{◌≡◌, ℕ, suc, zero, ◌+◌, ◌-◌, ◌<◌, ◌≤◌, ◌==◌, List, [], ◌∷◌, ◌++◌, length, take, drop, get_or, true, false, Option, Some, None, refl, sym, ap, ◌∙◌, subst, append_assoc, arith, cond, IfSome, length-append}
use Rattle.std.proofs.lemmas.List.{append-nil, drop-take, drop-drop, length-take}
use Rattle.std.proofs.lemmas.List.Quantifiers.{position-Some}
use Rattle.std.proofs.lemmas.Bool.Decides.{nat_tests}
use Rattle.std.specs.Prelude.{nat_lt}
use Rattle.std.specs.List.{position, position_or_len}
use Rattle.tg_io.specs.Bytes.{Gives}
use Rattle.tg_lines.specs.Lines.{lines, cut, joined, ahead, held, Begun, IsFirst, TakesLine, IsTaken, IsUnbroken, last_of}

-- a line that has come whole
pub line_ends : (bs rest : List ℕ) → IsUnbroken bs → lines (bs ++ 10 ∷ rest) ≡ bs ∷ lines rest
line_ends [] rest h = refl
line_ends (b ∷ bs) rest h = ap (λ t. cut b t (lines (bs ++ 10 ∷ rest))) h.0 ∙ ap (λ ls. joined b ls) (line_ends bs rest h.1)

-- the last line, which has no line feed
pub last_line : (b : ℕ) (bs : List ℕ) → IsUnbroken (b ∷ bs) → lines (b ∷ bs) ≡ (b ∷ bs) ∷ []
last_line b [] h = ap (λ t. cut b t []) h.0
last_line b (c ∷ cs) h = ap (λ t. cut b t (lines (c ∷ cs))) h.0 ∙ ap (λ ls. joined b ls) (last_line c cs h.1)

pub unbroken_both : (bs cs : List ℕ) → IsUnbroken bs → IsUnbroken cs → IsUnbroken (bs ++ cs)
unbroken_both [] cs h g = g
unbroken_both (b ∷ bs) cs h g = (h.0, unbroken_both bs cs h.1 g)

-- what was taken goes on a line that has begun
pub begun_more : (text : Option (List ℕ)) (left : Option (List ℕ)) (bytes rest before after : List ℕ) → Begun text (ahead bytes left) before → IsTaken bytes rest before after false → Begun text (ahead rest left) after
begun_more None left bytes rest before after h t = tt
begun_more (Some text) None bytes rest before after h t = h
begun_more (Some text) (Some left) bytes rest before after h t = (
  subst IsUnbroken (sym t.added) (unbroken_both before t.part h.0 t.unbroken),
  h.1 ∙ ap (λ (bs : List ℕ). before ++ (bs ++ left)) t.cut ∙ ap (λ (bs : List ℕ). before ++ bs) (append_assoc t.part rest left)
      ∙ sym (append_assoc before t.part (rest ++ left)) ∙ ap (λ (bs : List ℕ). bs ++ (rest ++ left)) (sym t.added),
)

-- its line feed ends it
pub begun_ends : (text : Option (List ℕ)) (left : Option (List ℕ)) (bytes rest before after : List ℕ) → Begun text (ahead bytes left) before → IsTaken bytes rest before after true → TakesLine text (ahead rest left) (Some after)
begun_ends None left bytes rest before after h t = tt
begun_ends (Some text) None bytes rest before after h t = h
begun_ends (Some text) (Some left) bytes rest before after h t =
    let whole : text ≡ after ++ 10 ∷ (rest ++ left) =
    h.1 ∙ ap (λ (bs : List ℕ). before ++ (bs ++ left)) t.cut ∙ ap (λ (bs : List ℕ). before ++ bs) (append_assoc t.part (10 ∷ rest) left)
    ∙ sym (append_assoc before t.part (10 ∷ (rest ++ left))) ∙ ap (λ (bs : List ℕ). bs ++ 10 ∷ (rest ++ left)) (sym t.added) in
    ap lines whole ∙ line_ends after (rest ++ left) (subst IsUnbroken (sym t.added) (unbroken_both before t.part h.0 t.unbroken))

-- a piece was read where none was at hand
pub begun_fed : (text : Option (List ℕ)) (left after : Option (List ℕ)) (none piece line : List ℕ) → Begun text (ahead none left) line → none ≡ [] → Gives left piece after → Begun text (ahead piece after) line
begun_fed None left after none piece line h e g = tt
begun_fed (Some text) None after none piece line h e g = absurd h
begun_fed (Some text) (Some left) after none piece line h e (rest, f, i) =
    subst (λ (o : Option (List ℕ)). Begun (Some text) (ahead piece o) line) (sym i)
    (h.0, h.1 ∙ ap (λ (bs : List ℕ). line ++ (bs ++ left)) e ∙ ap (λ (bs : List ℕ). line ++ bs) f)

-- no more comes after a read that gave nothing at the end
pub gives_end : (left after : Option (List ℕ)) (piece : List ℕ) → Gives left piece after → piece ≡ [] → IfSome left (λ bytes. bytes ≡ []) → IfSome after (λ bytes. bytes ≡ [])
gives_end None after piece g e h = subst (λ (o : Option (List ℕ)). IfSome o (λ bytes. bytes ≡ [])) (sym g) tt
gives_end (Some left) after piece (rest, f, i) e h =
    subst (λ (o : Option (List ℕ)). IfSome o (λ bytes. bytes ≡ [])) (sym i) (ap (λ (bs : List ℕ). bs ++ rest) (sym e) ∙ sym f ∙ h)

last_is_first : (line rest : List ℕ) → IsUnbroken line → rest ≡ [] → IsFirst line rest (last_of line)
last_is_first [] rest h e = (refl, e)
last_is_first (b ∷ bs) rest h e = last_line b bs h ∙ ap (λ (r : List ℕ). (b ∷ bs) ∷ lines r) (sym e)

-- the end of the text ends a line that has begun
pub begun_last : (text : Option (List ℕ)) (left : Option (List ℕ)) (none line : List ℕ) → Begun text (ahead none left) line → none ≡ [] → IfSome left (λ bytes. bytes ≡ []) → TakesLine text (ahead none left) (last_of line)
begun_last None left none line h e g = tt
begun_last (Some text) None none line h e g = h
begun_last (Some text) (Some left) none line h e g =
    let gone : none ++ left ≡ [] = ap (λ (bs : List ℕ). bs ++ left) e ∙ g in
    let same : line ≡ text = sym (h.1 ∙ ap (λ (bs : List ℕ). line ++ bs) gone ∙ append-nil line) in
    subst (λ (t : List ℕ). IsFirst t (none ++ left) (last_of line)) same (last_is_first line (none ++ left) h.0 gone)

pub begun_none : (text : Option (List ℕ)) (line : List ℕ) → line ≡ [] → Begun text text line
begun_none None line e = tt
begun_none (Some text) line e = (subst IsUnbroken (sym e) tt, ap (λ (bs : List ℕ). bs ++ text) (sym e))

pub nothing_left : (xs : List ℕ) → length xs ≡ 0 → xs ≡ []
nothing_left [] e = refl
nothing_left (x ∷ xs) e = absurd (omega arith)

pub some_last : (line l : List ℕ) → last_of line ≡ Some l → 0 < length line
some_last [] l e = absurd cc
some_last (b ∷ bs) l e = omega arith

-- bytes at hand and bytes of the line
pub taken_counts : (bytes rest before after : List ℕ) → IsTaken bytes rest before after false → length rest + length after ≤ length bytes + length before
taken_counts bytes rest before after t =
    let a : length after ≡ length before + length t.part = ap length t.added ∙ length-append before t.part in
    let b : length bytes ≡ length t.part + length rest = ap length t.cut ∙ length-append t.part rest in
    omega arith

pub end_counts : (bytes rest before after : List ℕ) → IsTaken bytes rest before after true → length rest < length bytes
end_counts bytes rest before after t =
    let b : length bytes ≡ length t.part + suc (length rest) = ap length t.cut ∙ length-append t.part (10 ∷ rest) in
    omega arith

-- the bytes before the first line feed, and those after it
unbroken_front : (bs : List ℕ) (n : ℕ) → ((k : ℕ) → k < n → (get_or bs k 0 == 10) ≡ false) → n ≤ length bs → IsUnbroken (take n bs)
unbroken_front bs zero h e = tt
unbroken_front [] (suc n) h e = absurd (omega arith)
unbroken_front (b ∷ bs) (suc n) h e = (h 0 (omega arith), unbroken_front bs n (λ k lt. h (suc k) (omega arith)) (omega arith))

split_at : (bs : List ℕ) (n : ℕ) → n < length bs → (get_or bs n 0 == 10) ≡ true → bs ≡ take n bs ++ 10 ∷ drop (suc n) bs
split_at [] n h e = absurd (omega arith)
split_at (b ∷ bs) zero h e = let is : b ≡ 10 = grind arith in ap (λ x. x ∷ bs) is
split_at (b ∷ bs) (suc n) h e = ap (λ xs. b ∷ xs) (split_at bs n (omega arith) e)

first_other : (b : ℕ) (bs : List ℕ) → length (b ∷ bs) ≤ position_or_len (λ b. b == 10) (b ∷ bs) → (b == 10) ≡ false
first_other b bs h = grind (arith, nat_tests)

rest_other : (b : ℕ) (bs : List ℕ) → length (b ∷ bs) ≤ position_or_len (λ b. b == 10) (b ∷ bs) → length bs ≤ position_or_len (λ b. b == 10) bs
rest_other b bs h = grind (arith, nat_tests)

none_found : (bs : List ℕ) → length bs ≤ position_or_len (λ b. b == 10) bs → IsUnbroken bs
none_found [] h = tt
none_found (b ∷ bs) h = (first_other b bs h, none_found bs (rest_other b bs h))

far : (n m : ℕ) → cond (nat_lt n m) (Some n) None ≡ None → m ≤ n
far n m e = grind (arith, nat_tests)

unbroken_all : (bs : List ℕ) → position (λ b. b == 10) bs ≡ None → IsUnbroken bs
unbroken_all bs e = none_found bs (far (position_or_len (λ b. b == 10) bs) (length bs) e)

pub takes_part : (bytes before after : List ℕ) (at : ℕ) → position (λ b. b == 10) bytes ≡ Some at → after ≡ before ++ take at bytes → IsTaken bytes (drop (suc at) bytes) before after true
takes_part bytes before after at e is =
    let p = position-Some (λ b. b == 10) bytes at 0 e in
    record {
      part = take at bytes;
      unbroken = unbroken_front bytes at p.2 (let lt = p.0 in omega arith);
      added = is;
      cut = split_at bytes at p.0 p.1;
      all = λ e. absurd cc;
    }

pub takes_all : (bytes before after : List ℕ) → position (λ b. b == 10) bytes ≡ None → after ≡ before ++ bytes → IsTaken bytes [] before after false
takes_all bytes before after e is = record { part = bytes; unbroken = unbroken_all bytes e; added = is; cut = sym (append-nil bytes); all = λ e. refl }

-- The bytes of a piece.

rest_at : (piece : List ℕ) (from to at : ℕ) → suc at ≤ to - from → drop (suc at) (held piece from to) ≡ held piece (from + (at + 1)) to
rest_at piece from to at h =
    let a : to - from ≡ suc at + (to - (from + (at + 1))) = omega arith in
    let b : from + suc at ≡ from + (at + 1) = omega arith in
    ap (λ n. drop (suc at) (take n (drop from piece))) a ∙ drop-take (suc at) (to - (from + (at + 1))) (drop from piece)
    ∙ ap (λ (bs : List ℕ). take (to - (from + (at + 1))) bs) (drop-drop (suc at) from piece ∙ ap (λ n. drop n piece) b)

none_at : (piece : List ℕ) (to : ℕ) → [] ≡ held piece to to
none_at piece to = let e : 0 ≡ to - to = omega arith in ap (λ n. take n (drop to piece)) e

within_piece : (piece : List ℕ) (from to at : ℕ) → at < length (held piece from to) → suc at ≤ to - from
within_piece piece from to at h = let e = length-take (to - from) (drop from piece) in omega arith

pub piece_part : (piece before after : List ℕ) (from to at : ℕ) → position (λ b. b == 10) (held piece from to) ≡ Some at → after ≡ before ++ take at (held piece from to) →
    IsTaken (held piece from to) (held piece (from + (at + 1)) to) before after true
piece_part piece before after from to at e is =
    let p = position-Some (λ b. b == 10) (held piece from to) at 0 e in
    subst (λ (rest : List ℕ). IsTaken (held piece from to) rest before after true) (rest_at piece from to at (within_piece piece from to at p.0)) (takes_part (held piece from to) before after at e is)

pub piece_all : (piece before after : List ℕ) (from to : ℕ) → position (λ b. b == 10) (held piece from to) ≡ None → after ≡ before ++ held piece from to →
    IsTaken (held piece from to) (held piece to to) before after false
piece_all piece before after from to e is =
    subst (λ (rest : List ℕ). IsTaken (held piece from to) rest before after false) (none_at piece to) (takes_all (held piece from to) before after e is)
