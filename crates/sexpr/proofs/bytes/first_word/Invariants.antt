use Rattle.std.proofs.Common.{◌≡◌, map, take, string_bytes}
use Rattle.std.specs.Char.{to_ascii_lowercase}
use Rattle.sexpr.proofs.bytes.first_word.Given as goal

abbrev pub invariant-loop-byte : goal.invariant-loop-byte
invariant-loop-byte l = string_bytes l.text ≡ map to_ascii_lowercase (take l.byte-index l.word)
