-- Texts: the bytes of a text as a list of numbers, the form in which contracts speak of what is read and written.
--   bytes_from n k s   the codes of the n characters of s from character k
--   bytes s           the codes of all characters of s; a text here has only characters below 128, each of them one byte
use Rattle.std.specs.Prelude.{List, [], ◌∷◌, ℕ, zero, suc, ◌+◌}
use Prim.Native.Char.{code}
use Prim.Native.String.{String, len, char_at}

abbrev pub bytes_from : ℕ → ℕ → String → List ℕ
bytes_from zero k s = []
bytes_from (suc n) k s = code (char_at s k) ∷ bytes_from n (k + 1) s

abbrev pub bytes : String → List ℕ
bytes s = bytes_from (len s) 0 s
