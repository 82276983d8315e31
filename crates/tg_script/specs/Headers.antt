-- The three lines of a header.
use Rattle.std.specs.Prelude.{◌≡◌, ℕ, ◌<◌, Bool, ◌&&◌, ◌==◌, List, [], ◌∷◌, ◌++◌, length, take, codes, Option, Some, None, Result, Ok, Err, if◌then◌else◌}
use Rattle.std.specs.Fmt.{decimal}
use Rattle.std.specs.Str.{bytes_eq}
use Rattle.tg_base.specs.declared.ids.Oid.{Oid}
use Rattle.tg_base.specs.declared.fault.TextFault.{TextFault}
use Rattle.tg_base.specs.declared.fault.TextFault.TheVariants.{NoMemory, Outside}
use Rattle.tg_base.specs.Units.{is_within}
use Rattle.tg_base.specs.Clusters.{Header, IsHeader, is_odd_to_seven, are_objects}
use Rattle.tg_any.specs.Decimals.{number_in}
use Rattle.tg_any.specs.Fronts.{◌>>=◌}
use Rattle.tg_any.specs.Words.{Phrase, object, one_read, joined}
use Rattle.tg_script.specs.Parts.{words_of, many}
use Rattle.tg_script.specs.Nodes.{chains_word, chains}
use Rattle.tg_script.specs.declared.header.Sizes.{Sizes}

-- how many nodes of each role there are, and how many positions
abbrev pub are_sizes : Sizes → Bool
are_sizes s = is_within 1 64 s.units && is_odd_to_seven s.layouts && is_within 1 16 s.seqs && is_within 1 32 s.clients && is_within 1 1000000 s.limit

-- `cluster units 1 layouts 1 seqs 1 clients 3 limit 100`
abbrev pub sizes_words : Sizes → List (List ℕ)
sizes_words s =
    codes "cluster" ∷ codes "units" ∷ decimal s.units ∷ codes "layouts" ∷ decimal s.layouts ∷ codes "seqs" ∷ decimal s.seqs
    ∷ codes "clients" ∷ decimal s.clients ∷ codes "limit" ∷ decimal s.limit ∷ []

-- a number after its name, and the words that follow
abbrev pub field_at : List ℕ → List (List ℕ) → Option (ℕ × List (List ℕ))
field_at name (w ∷ v ∷ words) = if bytes_eq w name then (number_in v >>= λ n. Some (n, words)) else None
field_at name (w ∷ []) = None
field_at name [] = None

abbrev pub sizes_if : Bool → Sizes → Option Sizes
sizes_if last s = if last && are_sizes s then Some s else None

-- the sizes that stand after the word `cluster`
unfoldable pub sizes_after : List (List ℕ) → Option Sizes
sizes_after words =
    field_at (codes "units") words >>= λ u.
    field_at (codes "layouts") u.1 >>= λ l.
    field_at (codes "seqs") l.1 >>= λ s.
    field_at (codes "clients") s.1 >>= λ c.
    field_at (codes "limit") c.1 >>= λ m.
    sizes_if (length m.1 == 0) (record { units = u.0; layouts = l.0; seqs = s.0; clients = c.0; limit = m.0 })

abbrev pub sizes_read : List (List ℕ) → Option Sizes
sizes_read [] = None
sizes_read (word ∷ words) = if bytes_eq word (codes "cluster") then sizes_after words else None

abbrev pub sizes : Phrase Sizes
sizes = record { spell = sizes_words; fits = are_sizes; read = sizes_read }

abbrev pub stripes_read : ℕ → List (List ℕ) → Option (List (List ℕ))
stripes_read units [] = None
stripes_read units (word ∷ fields) = if bytes_eq word (codes "chains") then one_read (chains units) fields else None

-- `chains u0,u1/u2,u3`
abbrev pub stripes : ℕ → Phrase (List (List ℕ))
stripes units = record { spell = λ cs. codes "chains" ∷ chains_word cs ∷ []; fits = (chains units).fits; read = stripes_read units }

abbrev pub objects_read : List (List ℕ) → Option (List Oid)
objects_read [] = None
objects_read (word ∷ fields) = if bytes_eq word (codes "objects") then (many object are_objects).read fields else None

-- `objects ctr0 map0`, or `objects` alone where there is none
abbrev pub objects : Phrase (List Oid)
objects = record { spell = λ os. codes "objects" ∷ (many object are_objects).spell os; fits = (many object are_objects).fits; read = objects_read }

abbrev pub sizes_of : Header → Sizes
sizes_of h = record { units = h.units; layouts = h.layouts; seqs = h.seqs; clients = h.clients; limit = h.limit }

-- the lines of a header, without their line feeds
abbrev pub header_lines : Header → List (List ℕ)
header_lines h = joined (sizes.spell (sizes_of h)) ∷ joined ((stripes h.units).spell h.chains) ∷ joined (objects.spell h.objects) ∷ []

-- lines, each with its line feed
abbrev pub lines_text : List (List ℕ) → List ℕ
lines_text [] = []
lines_text (line ∷ lines) = line ++ 10 ∷ lines_text lines

-- the lines as far as the n-th are those of a header
pub record IsFront (lines : List (List ℕ)) (n : ℕ) : Type 0 where
  pub header : Header
  pub lawful : IsHeader header
  pub same : take n lines ≡ take n (header_lines header)

-- Line n, from 1, is the first that no header has after the lines before it. It may be the one after the last.
pub record IsFirstOutside (lines : List (List ℕ)) (n : ℕ) : Type 0 where
  pub before : (m : ℕ) → m < n → IsFront lines m
  pub outside : IsFront lines n → ⊥

-- The sizes of the first line, the chains of the second, and the objects of the third.
abbrev pub sizes_in : List (List ℕ) → Option Sizes
sizes_in [] = None
sizes_in (line ∷ lines) = sizes.read (words_of line)

abbrev pub stripes_in : ℕ → List (List ℕ) → Option (List (List ℕ))
stripes_in units [] = None
stripes_in units (first ∷ []) = None
stripes_in units (first ∷ line ∷ lines) = (stripes units).read (words_of line)

abbrev pub objects_in : List (List ℕ) → Option (List Oid)
objects_in [] = None
objects_in (first ∷ []) = None
objects_in (first ∷ second ∷ []) = None
objects_in (first ∷ second ∷ line ∷ lines) = objects.read (words_of line)

-- what holds of the line that a fault names
abbrev pub OnOutside : {A : Type 0} → Result A TextFault → (ℕ → Type 0) → Type 0
OnOutside (Ok x) P = Unit {0}
OnOutside (Err NoMemory) P = Unit {0}
OnOutside (Err (Outside line)) P = P line
