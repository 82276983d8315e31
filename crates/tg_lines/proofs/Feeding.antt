-- The line feeds of what was taken of a text.
use Rattle.std.proofs.Common.{◌≡◌, ℕ, ◌+◌, ◌≤◌, Bool, true, List, [], ◌∷◌, ◌++◌, Option, Some, None, Result, Ok, Err, refl, sym, ap, ◌∙◌, subst, append_assoc, arith}
use Rattle.std.specs.Prelude.{if◌then◌else◌}
use Rattle.tg_lines.specs.Lines.{Begun, IsTaken, IsUnbroken, ahead}
use Rattle.tg_lines.specs.Feeds.{feeds, TakesFeeds}
use Rattle.tg_lines.proofs.Pieces.{unbroken_both}

pub feeds_both : (bs cs : List ℕ) → feeds (bs ++ cs) ≡ feeds bs + feeds cs
feeds_both [] cs = omega arith
feeds_both (b ∷ bs) cs =
    let e : feeds (bs ++ cs) ≡ feeds bs + feeds cs = feeds_both bs cs in
    omega (arith, e)

pub unbroken_feeds : (bs : List ℕ) → IsUnbroken bs → feeds bs ≡ 0
unbroken_feeds [] h = refl
unbroken_feeds (b ∷ bs) h = ap (λ (t : Bool). (if t then 1 else 0) + feeds bs) h.0 ∙ (let e : feeds bs ≡ 0 = unbroken_feeds bs h.1 in omega (arith, e))

pub takes_nothing : (text : Option (List ℕ)) (n : ℕ) → TakesFeeds n text text
takes_nothing None n = tt
takes_nothing (Some text) n = ([], refl, omega arith)

-- one part, and then another
pub takes_more : (text rest more : Option (List ℕ)) (m n k : ℕ) → m + n ≤ k → TakesFeeds m text rest → TakesFeeds n rest more → TakesFeeds k text more
takes_more None rest more m n k le h g = tt
takes_more (Some text) None more m n k le h g = absurd h
takes_more (Some text) (Some rest) None m n k le h g = g
takes_more (Some text) (Some rest) (Some more) m n k le (came, cut, few) (next, then_cut, fewer) = (
  came ++ next,
  cut ∙ ap (λ (bs : List ℕ). came ++ bs) then_cut ∙ sym (append_assoc came next more),
  (let e : feeds (came ++ next) ≡ feeds came + feeds next = feeds_both came next in omega (arith, e, few, fewer, le)),
)

-- a line that has begun has no feed yet
pub begun_feeds : (text rest : Option (List ℕ)) (line : List ℕ) → Begun text rest line → TakesFeeds 0 text rest
begun_feeds None rest line h = tt
begun_feeds (Some text) None line h = h
begun_feeds (Some text) (Some rest) line h = (line, h.1, (let e : feeds line ≡ 0 = unbroken_feeds line h.0 in omega (arith, e)))

-- one that has ended has its own
pub ended_feeds : (text left : Option (List ℕ)) (bytes rest before after : List ℕ) → Begun text (ahead bytes left) before → IsTaken bytes rest before after true → TakesFeeds 1 text (ahead rest left)
ended_feeds None left bytes rest before after h t = tt
ended_feeds (Some text) None bytes rest before after h t = h
ended_feeds (Some text) (Some left) bytes rest before after h t =
    let line = before ++ t.part in
    let whole : text ≡ (line ++ 10 ∷ []) ++ (rest ++ left) =
    h.1 ∙ ap (λ (bs : List ℕ). before ++ (bs ++ left)) t.cut ∙ ap (λ (bs : List ℕ). before ++ bs) (append_assoc t.part (10 ∷ rest) left)
    ∙ sym (append_assoc before t.part (10 ∷ (rest ++ left))) ∙ sym (append_assoc line (10 ∷ []) (rest ++ left)) in
    let none : feeds line ≡ 0 = unbroken_feeds line (unbroken_both before t.part h.0 t.unbroken) in
    let one : feeds (line ++ 10 ∷ []) ≡ feeds line + 1 = feeds_both line (10 ∷ []) in
    (line ++ 10 ∷ [], whole, omega (arith, none, one))

-- nothing is at hand when the source fails
pub failed_feeds : (text was left : Option (List ℕ)) (none line : List ℕ) → Begun text (ahead none was) line → none ≡ [] → left ≡ was → TakesFeeds 0 text left
failed_feeds text was left none line h e same =
    subst (λ (o : Option (List ℕ)). TakesFeeds 0 text o) (sym same) (subst (λ (o : Option (List ℕ)). TakesFeeds 0 text o) (at_hand was) (begun_feeds text (ahead none was) line h))
  where
    at_hand : (o : Option (List ℕ)) → ahead none o ≡ o
    at_hand None = refl
    at_hand (Some left) = ap (λ (bs : List ℕ). Some (bs ++ left)) e

pub wider_feeds : (text rest : Option (List ℕ)) (m n : ℕ) → m ≤ n → TakesFeeds m text rest → TakesFeeds n text rest
wider_feeds None rest m n le h = tt
wider_feeds (Some text) None m n le h = h
wider_feeds (Some text) (Some rest) m n le (came, cut, few) = (came, cut, omega (arith, few, le))

-- Errors that are handed on.

abbrev error_or : {X E : Type 0} → E → Result X E → E
error_or other (Err e) = e
error_or other (Ok x) = other

pub handed_on : {A B E : Type 0} (r : Result B E) (e f : E) → r ≡ Err e → r ≡ Err f → ◌≡◌ {A = Result A E} (Err e) (Err f)
handed_on {A} {B} {E} r e f is so = ap Err (ap (λ (x : Result B E). error_or e x) (sym is ∙ so))
