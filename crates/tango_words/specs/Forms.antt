-- The words after the program's name, and the forms that they are: `replay`, `live`, `node ID`, `bench START COUNT` and
-- `audit`. All else is no form, and so is each list with a word that begins with `-`.
use Rattle.std.specs.Prelude.{ℕ, ◌&&◌, ◌==◌, List, [], ◌∷◌, Option, Some, None, if◌then◌else◌, nat_le, codes, option_map, option_and_then}
use Rattle.std.specs.Str.{bytes_eq}
use Rattle.tg_base.specs.declared.ids.NodeId.{NodeId}
use Rattle.tg_base.specs.declared.ids.Role.{Role}
use Rattle.tg_base.specs.declared.ids.Role.TheVariants.{Unit as AUnit, Layout, Seqr, Client}
use Rattle.tg_any.specs.Decimals.{number_in}
use Rattle.tango_words.specs.declared.forms.Form.{Form}
use Rattle.tango_words.specs.declared.forms.Form.TheVariants.{Replay, Live, Node, Bench, Audit}

-- a number from the least to the most, in decimal without leading zeros
abbrev pub number_from : ℕ → ℕ → List ℕ → Option ℕ
number_from least most word = option_and_then (λ n. if nat_le least n && nat_le n most then Some n else None) (number_in word)

-- a role by its letter: `u`nit, `l`ayout server, `s`equencer or `c`lient
abbrev pub role_at : ℕ → Option Role
role_at letter =
    if letter == 117 then Some AUnit else (if letter == 108 then Some Layout else (if letter == 115 then Some Seqr else (if letter == 99 then Some Client else None)))

-- an ID is a role's letter, and then a number of 16 bits
abbrev pub node_in : List ℕ → Option NodeId
node_in [] = None
node_in (letter ∷ digits) =
    option_and_then (λ r. option_map (λ n. record { role = r; num = n }) (number_from 0 65535 digits)) (role_at letter)

-- By the words after a form's name. Some forms have none.
abbrev pub alone : Form → List (List ℕ) → Option Form
alone form [] = Some form
alone form _ = None

-- a node has its ID
abbrev pub of_node : List (List ℕ) → Option Form
of_node (id ∷ []) = option_map Node (node_in id)
of_node _ = None

-- a made load has its start, a number of 64 bits, and its count of rounds
abbrev pub of_bench : List (List ℕ) → Option Form
of_bench (start ∷ count ∷ []) = option_and_then (λ s. option_map (λ n. Bench s n) (number_from 1 2000 count)) (number_in start)
of_bench _ = None

-- the form of a name and the words after it
abbrev pub form_by : List ℕ → List (List ℕ) → Option Form
form_by name own =
    if bytes_eq name (codes "replay") then alone Replay own
    else (if bytes_eq name (codes "live") then alone Live own
    else (if bytes_eq name (codes "node") then of_node own
    else (if bytes_eq name (codes "bench") then of_bench own
    else (if bytes_eq name (codes "audit") then alone Audit own
    else None))))

-- the form that all the words are
abbrev pub form_of : List (List ℕ) → Option Form
form_of [] = None
form_of (name ∷ own) = form_by name own
