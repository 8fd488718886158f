-- Two texts byte by byte.
use Rattle.std.proofs.Common.{◌≡◌, ◌≢◌, ℕ, ◌+◌, ◌<◌, suc, Bool, true, false, List, [], ◌∷◌, map, Some, None, length, get_or, drop, refl, sym, ◌∙◌, ap, arith}
use Rattle.std.specs.Prelude.{bytes_eq, nat_eq, ◌&&◌, not, nat_lt, position, if◌then◌else◌}
use Rattle.std.specs.List.{position_or_len}
use Rattle.name_table.specs.NameTable.{number_in}
use Rattle.pddl_task.specs.declared.declared.TypeName.{TypeName}
use Rattle.pddl_task.specs.Task.{names_of}
use Rattle.std.specs.Char.{to_ascii_lowercase}
use Rattle.std.proofs.lemmas.List.{drop_more, get_or-map, length-map}
use Rattle.std.proofs.lemmas.Bool.Decides.{nat_tests}

either_number : (x y : ℕ) → nat_eq x y ≡ nat_eq y x
either_number x y = grind (arith, nat_tests)

equal_numbers : (x y : ℕ) → x ≡ y → nat_eq y x ≡ true
equal_numbers x y is = grind (arith, nat_tests)

other_numbers : (x y : ℕ) → x ≢ y → nat_eq y x ≡ false
other_numbers x y is = grind (arith, nat_tests)

-- the comparison from a place is that of the bytes there, and the comparison behind it
one_byte : (xs ys : List ℕ) (i : ℕ) → i < length xs → i < length ys → bytes_eq (drop i xs) (drop i ys) ≡ (nat_eq (get_or xs i 0) (get_or ys i 0) && bytes_eq (drop (i + 1) xs) (drop (i + 1) ys))
one_byte xs ys i in_xs in_ys =
    ap (λ (l : List ℕ). bytes_eq l (drop i ys)) (drop_more xs i 0 in_xs) ∙ ap (λ (l : List ℕ). bytes_eq (get_or xs i 0 ∷ drop (i + 1) xs) l) (drop_more ys i 0 in_ys)

-- the lowered byte of a text at a place
lowered_at : (text : List ℕ) (i : ℕ) → i < length text → get_or (map to_ascii_lowercase text) i 0 ≡ to_ascii_lowercase (get_or text i 0)
lowered_at text i within = get_or-map to_ascii_lowercase text i 0 0 within

module _ (text lowered : List ℕ) (i byte : ℕ) (same_length : length text ≡ length lowered) (within : i < length text)
    (byte_is : byte ≡ to_ascii_lowercase (get_or text i 0)) (so_far : bytes_eq (drop i lowered) (drop i (map to_ascii_lowercase text)) ≡ bytes_eq lowered (map to_ascii_lowercase text)) where
  here : bytes_eq lowered (map to_ascii_lowercase text) ≡ (nat_eq (get_or lowered i 0) byte && bytes_eq (drop (i + 1) lowered) (drop (i + 1) (map to_ascii_lowercase text)))
  here =
      sym so_far ∙ one_byte lowered (map to_ascii_lowercase text) i (omega (arith, same_length, within)) (omega (arith, within, length-map text to_ascii_lowercase))
      ∙ ap (λ (b : ℕ). nat_eq (get_or lowered i 0) b && bytes_eq (drop (i + 1) lowered) (drop (i + 1) (map to_ascii_lowercase text))) (lowered_at text i within ∙ sym byte_is)

  pub byte_differs : byte ≢ get_or lowered i 0 → false ≡ bytes_eq lowered (map to_ascii_lowercase text)
  byte_differs differs = sym (here ∙ ap (λ (b : Bool). b && bytes_eq (drop (i + 1) lowered) (drop (i + 1) (map to_ascii_lowercase text))) (other_numbers byte (get_or lowered i 0) differs))

  pub byte_agrees : byte ≡ get_or lowered i 0 → bytes_eq (drop (i + 1) lowered) (drop (i + 1) (map to_ascii_lowercase text)) ≡ bytes_eq lowered (map to_ascii_lowercase text)
  byte_agrees agrees = sym (here ∙ ap (λ (b : Bool). b && bytes_eq (drop (i + 1) lowered) (drop (i + 1) (map to_ascii_lowercase text))) (equal_numbers byte (get_or lowered i 0) agrees))

equal_either_way : (xs ys : List ℕ) → bytes_eq xs ys ≡ bytes_eq ys xs
equal_either_way [] [] = refl
equal_either_way [] (y ∷ ys) = refl
equal_either_way (x ∷ xs) [] = refl
equal_either_way (x ∷ xs) (y ∷ ys) = ap (λ (b : Bool). b && bytes_eq xs ys) (either_number x y) ∙ ap (λ (b : Bool). nat_eq y x && b) (equal_either_way xs ys)

-- the place of a type's name is its number
place_or_len : (types : List TypeName) (name : List ℕ) → position_or_len (λ t. bytes_eq t.name name) types ≡ position_or_len (bytes_eq name) (names_of types)
place_or_len [] name = refl
place_or_len (t ∷ types) name =
    ap (λ (b : Bool). if not b then 1 + position_or_len (λ u. bytes_eq u.name name) types else 0) (equal_either_way t.name name)
    ∙ ap (λ (n : ℕ). if not (bytes_eq name t.name) then 1 + n else 0) (place_or_len types name)

pub named_position : (types : List TypeName) (name : List ℕ) → position (λ t. bytes_eq t.name name) types ≡ number_in (names_of types) name
named_position types name =
    ap (λ (n : ℕ). if nat_lt n (length types) then Some n else None) (place_or_len types name)
    ∙ ap (λ (n : ℕ). if nat_lt (position_or_len (bytes_eq name) (names_of types)) n then Some (position_or_len (bytes_eq name) (names_of types)) else None) (sym (length-map types (λ t. t.name)))
