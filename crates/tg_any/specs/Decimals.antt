-- Numbers in decimal, without leading zeros, and what is read of them.
use Rattle.std.specs.Prelude.{ℕ, ◌^◌, ◌&&◌, List, take, drop, Option, Some, None, option_map, nat_lt, if◌then◌else◌, ℤ}
use Rattle.std.specs.List.{prefix_len}
use Rattle.std.specs.Char.{is_ascii_digit}
use Rattle.std.specs.Str.{bytes_eq}
use Rattle.std.specs.Str.Parse.{digits_value, signed_digits_value}
use Rattle.std.specs.Fmt.{decimal, signed_decimal}
use lib.Signed.{mag}

-- the number of 64 bits whose decimal is this text
unfoldable pub number_in : List ℕ → Option ℕ
number_in word = if nat_lt (digits_value 10 word) (2 ^ 64) && bytes_eq word (decimal (digits_value 10 word)) then Some (digits_value 10 word) else None

-- the same with a sign
unfoldable pub signed_in : List ℕ → Option ℤ
signed_in word =
    if nat_lt (mag (signed_digits_value 10 word)) (2 ^ 63) && bytes_eq word (signed_decimal (signed_digits_value 10 word)) then Some (signed_digits_value 10 word)
    else None

-- the number that the digits at the front are, and what follows them
unfoldable pub number_at : List ℕ → Option (ℕ × List ℕ)
number_at text = option_map (λ n. (n, drop (prefix_len is_ascii_digit text) text)) (number_in (take (prefix_len is_ascii_digit text) text))
