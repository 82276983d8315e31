-- Paths: a slash, or one or more times a slash and a name, which is a text of letters, digits, underscores,
-- full stops and hyphens.
use Rattle.std.specs.Prelude.{◌≡◌, ℕ, suc, ◌-◌, max, Bool, true, ◌||◌, ◌==◌, List, [], ◌∷◌, take, drop, Option, Some, None, if◌then◌else◌}
use Rattle.std.specs.declared.cmp.Ordering.{Ordering}
use Rattle.std.specs.Ordering.{nat_cmp}
use Rattle.std.specs.Cmp.Lexicographic.{slice_cmp}
use Rattle.std.specs.BTreeMap.{is_at}
use Rattle.std.specs.List.{list_any}
use Rattle.tg_codec.specs.Codec.{Codec, u8, u16, behind, read_many, fit_many}
use Rattle.tg_kind.specs.Texts.{text_bytes}

-- the path of a tree's first node
abbrev pub root : List ℕ
root = 47 ∷ []

-- the order of paths
abbrev pub by_bytes : List ℕ → List ℕ → Ordering
by_bytes = slice_cmp nat_cmp

abbrev pub same : List ℕ → List ℕ → Bool
same p q = is_at (by_bytes p) q

-- The bytes that a path goes on with, from how many are to come and the one before, which is 0 at the start: a
-- slash first, no slash after a slash, and none at the end.
abbrev pub next_bytes : ℕ × ℕ → List (ℕ × ℕ)
next_bytes s = if s.1 == 0 then (47, 47) ∷ [] else if (s.1 == 47) || (s.0 == 1) then text_bytes else (47, 47) ∷ text_bytes

abbrev pub path_byte : ℕ × ℕ → Codec ℕ
path_byte s = u8 (next_bytes s)

abbrev pub after_byte : ℕ × ℕ → ℕ → ℕ × ℕ
after_byte s b = (s.0 - 1, b)

-- the bytes of a path of this length
abbrev pub path_body : ℕ → Codec (List ℕ)
path_body n = record {
  spell = λ bytes. bytes;
  fits = fit_many path_byte after_byte n (n, 0);
  read = read_many path_byte after_byte n (n, 0);
}

-- a path of at most 4,096 bytes, behind its length in two bytes
abbrev pub path_format : Codec (List ℕ)
path_format = behind (u16 ((1, 4096) ∷ [])) path_body

abbrev pub IsPath : List ℕ → Type 0
IsPath bytes = path_format.fits bytes ≡ true

-- the path that bytes are
abbrev pub path_of : List ℕ → Option (List ℕ)
path_of bytes = if path_format.fits bytes then Some bytes else None

abbrev pub has_slash : List ℕ → Bool
has_slash bytes = list_any (λ b. b == 47) bytes

-- the place of the last slash of bytes that begin with one
abbrev pub last_slash : List ℕ → ℕ
last_slash [] = 0
last_slash (b ∷ bytes) = if has_slash bytes then suc (last_slash bytes) else 0

-- what stands before a path's last slash, or that slash itself where nothing does
abbrev pub parent : List ℕ → List ℕ
parent path = take (max 1 (last_slash path)) path

-- what stands behind a path's last slash
abbrev pub last_name : List ℕ → List ℕ
last_name path = drop (suc (last_slash path)) path
