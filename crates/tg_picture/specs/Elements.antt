-- The elements of an SVG that stand for arrows, replies and positions.
use Rattle.std.specs.Prelude.{◌≡◌, ℕ, ◌+◌, ◌-◌, ◌/◌, ◌^◌, min, Bool, true, false, ◌&&◌, ◌||◌, ◌==◌, nat_lt, nat_le, List, [], ◌∷◌, ◌++◌, take, length, slice_get, codes, decimal, option_map, if◌then◌else◌}
use Rattle.std.specs.List.{find, flat_map}
use Rattle.tg_base.specs.Orders.{node_eq}
use Rattle.tg_base.specs.declared.ids.NodeId.{NodeId}
use Rattle.tg_base.specs.declared.ids.Role.{Role}
use Rattle.tg_base.specs.declared.ids.Role.TheVariants as role
use Rattle.tg_picture.specs.Courses.{or_else}
use Rattle.tg_picture.specs.declared.picture.Arrow.{Arrow}
use Rattle.tg_picture.specs.declared.picture.LogBox.{LogBox}
use Rattle.tg_picture.specs.declared.picture.Picture.{Picture}
use Rattle.tg_picture.specs.declared.picture.Reply.{Reply}
use Rattle.tg_picture.specs.declared.picture.Standing.{Standing}
use Rattle.tg_picture.specs.declared.picture.Standing.TheVariants as standing
use Rattle.tg_picture.specs.declared.svg.places.Places.{Places}
use Rattle.tg_picture.specs.declared.ways.Ending.{Ending}
use Rattle.tg_picture.specs.declared.ways.Ending.TheVariants.{First, Again, Lost}

-- Pieces of elements.

-- a letter as content: what would be markup is escaped, and what is no printable ASCII is a question mark
abbrev pub letter : ℕ → List ℕ
letter b =
    if b == 60 then codes "&lt;"
    else (if b == 62 then codes "&gt;"
    else (if b == 38 then codes "&amp;"
    else (if b == 34 then codes "&quot;"
    else (if b == 39 then codes "&#39;"
    else (if nat_le 32 b && nat_le b 126 then b ∷ [] else codes "?")))))

abbrev pub escaped : List ℕ → List ℕ
escaped text = flat_map letter text

-- a text of which so many letters fit: two dots stand for the rest of a longer one
abbrev pub short : List ℕ → ℕ → List ℕ
short text most = if nat_le (length text) most || nat_lt most 2 then escaped text else escaped (take (most - 2) text) ++ codes ".."

-- attributes
abbrev pub numbered : List ℕ → ℕ → List ℕ
numbered name value = codes " " ++ name ++ codes "=\"" ++ decimal value ++ codes "\""

abbrev pub worded : List ℕ → List ℕ → List ℕ
worded name value = codes " " ++ name ++ codes "=\"" ++ escaped value ++ codes "\""

-- Elements.

unfoldable pub line_text : List ℕ → ℕ × ℕ → ℕ × ℕ → List ℕ
line_text class from to =
    codes "<line" ++ worded (codes "class") class ++ numbered (codes "x1") from.0 ++ numbered (codes "y1") from.1 ++ numbered (codes "x2") to.0 ++ numbered (codes "y2") to.1
    ++ codes "/>\n"

-- a sum that stands still at the largest number
abbrev pub up : ℕ → ℕ → ℕ
up a b = min (a + b) (2 ^ 64 - 1)

unfoldable pub cross_text : ℕ × ℕ → List ℕ
cross_text at = line_text (codes "cross") (at.0 - 5, at.1 - 5) (up at.0 5, up at.1 5) ++ line_text (codes "cross") (at.0 - 5, up at.1 5) (up at.0 5, at.1 - 5)

-- what is said to whoever points at an element
unfoldable pub title_text : List ℕ → List ℕ
title_text text = codes "<title>" ++ escaped text ++ codes "</title>"

abbrev pub title_if : List ℕ → List ℕ
title_if [] = []
title_if (b ∷ bs) = title_text (b ∷ bs)

-- a text of which so many letters fit, with the whole of another one
unfoldable pub label_text : List ℕ → ℕ × ℕ → List ℕ → ℕ → List ℕ → List ℕ
label_text class at text most whole =
    codes "<text" ++ worded (codes "class") class ++ numbered (codes "x") at.0 ++ numbered (codes "y") at.1 ++ codes ">" ++ title_if whole ++ short text most ++ codes "</text>\n"

unfoldable pub rect_text : List ℕ → ℕ × ℕ → ℕ × ℕ → List ℕ
rect_text class at size =
    codes "<rect" ++ worded (codes "class") class ++ numbered (codes "x") at.0 ++ numbered (codes "y") at.1 ++ numbered (codes "width") size.0 ++ numbered (codes "height") size.1

-- Arrows.

-- where a node's lane stands
unfoldable pub lane : Places → NodeId → ℕ
lane p n = or_else (option_map (λ (l : NodeId × ℕ). l.1) (find (λ (l : NodeId × ℕ). node_eq n l.0) p.lanes)) 0

-- where a step stands
unfoldable pub row : Places → ℕ → ℕ
row p step = if nat_lt step p.first then 36 else or_else (slice_get p.rows (step - p.first)) p.bottom

-- where an arrow ends: at its node's lane, or half way where it is lost
abbrev pub end_at : Ending → ℕ → ℕ → ℕ → ℕ × ℕ
end_at Lost from to y = (from / 2 + to / 2, y)
end_at ending from to y = (to, y)

abbrev pub end_of : Places → Arrow → ℕ × ℕ
end_of p a = end_at a.course.ending (lane p a.course.from) (lane p a.course.to) (row p a.course.ends_in)

abbrev pub begin_of : Places → Arrow → ℕ × ℕ
begin_of p a = (lane p a.course.from, row p a.course.sent_in)

-- how an arrow is drawn: by the role of the node that sent it, and dashed where it is a repeat
abbrev pub arrow_class : Role → List ℕ
arrow_class role.Client = codes "arrow client"
arrow_class role.Seqr = codes "arrow seqr"
arrow_class role.Unit = codes "arrow unit"
arrow_class role.Layout = codes "arrow layout"

abbrev pub again_class : Role → List ℕ
again_class role.Client = codes "arrow client again"
again_class role.Seqr = codes "arrow seqr again"
again_class role.Unit = codes "arrow unit again"
again_class role.Layout = codes "arrow layout again"

-- a line, and a cross at its end where it is lost
abbrev pub course_text : Ending → Role → ℕ × ℕ → ℕ × ℕ → List ℕ
course_text First r from to = line_text (arrow_class r) from to
course_text Again r from to = line_text (again_class r) from to
course_text Lost r from to = line_text (codes "lost") from to ++ cross_text to

-- an arrow's element, with the whole message
unfoldable pub arrow_text : Places → Arrow → List ℕ
arrow_text p a = codes "<g>" ++ title_text a.whole ++ course_text a.course.ending a.course.from.role (begin_of p a) (end_of p a) ++ codes "</g>\n"

-- Replies.

-- what follows the first space
unfoldable pub after_space : List ℕ → List ℕ
after_space [] = []
after_space (b ∷ bs) = if b == 32 then bs else after_space bs

-- a line without its line feed
abbrev pub without_feed : List ℕ → List ℕ
without_feed line = take (length line - 1) line

-- the words of a reply's line after its event and its client
abbrev pub words_of : List ℕ → List ℕ
words_of line = after_space (after_space (without_feed line))

-- a reply's element at the left of its client's lane, so far below its step's row
unfoldable pub reply_text : Places → ℕ → Reply → List ℕ
reply_text p below r =
    label_text (codes "reply") (lane p (record { role = role.Client; num = r.client }) - 10, up (up (row p r.step) below) 4) (words_of r.line) 44 (without_feed r.line)

-- a reply stands below those of the same step
abbrev pub below_in : ℕ → ℕ → ℕ → ℕ
below_in step below next = if next == step then below else 0

unfoldable pub replies_text : Places → ℕ → ℕ → List Reply → List ℕ
replies_text p step below [] = []
replies_text p step below (r ∷ rs) = reply_text p (below_in step below r.step) r ++ replies_text p r.step (up (below_in step below r.step) 14) rs

-- Boxes of positions.

abbrev pub standing_word : Standing → List ℕ
standing_word standing.Committed = codes "committed"
standing_word standing.Aborted = codes "aborted"
standing_word standing.Undecided = codes "undecided"
standing_word standing.Decision = codes "decision"
standing_word standing.Checkpoint = codes "checkpoint"
standing_word standing.Junk = codes "junk"

-- how a box is drawn
abbrev pub box_class : Standing → Bool → List ℕ
box_class standing.Committed false = codes "box committed"
box_class standing.Aborted false = codes "box aborted"
box_class standing.Undecided false = codes "box undecided"
box_class standing.Decision false = codes "box decision"
box_class standing.Checkpoint false = codes "box checkpoint"
box_class standing.Junk false = codes "box junk"
box_class standing.Committed true = codes "box committed trimmed"
box_class standing.Aborted true = codes "box aborted trimmed"
box_class standing.Undecided true = codes "box undecided trimmed"
box_class standing.Decision true = codes "box decision trimmed"
box_class standing.Checkpoint true = codes "box checkpoint trimmed"
box_class standing.Junk true = codes "box junk trimmed"

abbrev pub trimmed_word : Bool → List ℕ
trimmed_word true = codes ", trimmed"
trimmed_word false = []

-- the position, and what came of it
unfoldable pub head_text : LogBox → List ℕ
head_text b = decimal b.pos ++ codes " " ++ standing_word b.standing ++ trimmed_word b.trimmed

unfoldable pub whole_text : List ℕ → LogBox → List ℕ
whole_text head b = head ++ codes ": " ++ b.by ++ codes ": " ++ b.says

abbrev pub box_row : ℕ × ℕ → ℕ → List ℕ → List ℕ → List ℕ
box_row at below class text = label_text class (up at.0 7, up at.1 below) text 21 []

unfoldable pub box_rows : ℕ × ℕ → List ℕ → LogBox → List ℕ
box_rows at head b = box_row at 16 (codes "head") head ++ box_row at 34 (codes "said") b.by ++ box_row at 50 (codes "said") b.says

unfoldable pub box_text : ℕ × ℕ → LogBox → List ℕ
box_text at b =
    codes "<g>" ++ title_text (whole_text (head_text b) b) ++ rect_text (box_class b.standing b.trimmed) at (160, 62) ++ codes "/>\n" ++ box_rows at (head_text b) b ++ codes "</g>\n"

-- where a box stands: at the left of the next row where it would reach over the width
abbrev pub place_of : ℕ → ℕ × ℕ → ℕ × ℕ
place_of width at = if nat_lt 12 at.0 && nat_lt width (up at.0 170) then (12, up at.1 72) else at

abbrev pub next_place : ℕ × ℕ → ℕ × ℕ
next_place at = (up at.0 170, at.1)

unfoldable pub boxes_text : ℕ → ℕ × ℕ → List LogBox → List ℕ
boxes_text width at [] = []
boxes_text width at (b ∷ bs) = box_text (place_of width at) b ++ boxes_text width (next_place (place_of width at)) bs

-- The text of a picture: an element for each arrow, then one for each reply, then one for each position, each in their order.
pub record IsDrawn (p : Picture) (text : List ℕ) : Type 0 where
  pub places : Places
  pub width : ℕ
  pub top : ℕ
  pub before : List ℕ
  pub above : List ℕ
  pub beside : List ℕ
  pub after : List ℕ
  pub is : text ≡ before ++ flat_map (arrow_text places) p.arrows ++ above ++ replies_text places 0 0 p.replies ++ beside ++ boxes_text width (12, top) p.boxes ++ after
