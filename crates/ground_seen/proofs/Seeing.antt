-- Sightings one after another.
use Rattle.std.proofs.Common.{◌≡◌, ℕ, ◌+◌, ◌<◌, ◌≤◌, List, [], ◌∷◌, ◌++◌, length, take, take_all, get_or, refl, sym, ap, ◌∙◌}
use Rattle.std.specs.List.{flat_map}
use Rattle.std.proofs.lemmas.List.{take_more}
use Rattle.std.proofs.lemmas.List.Sums.{fold-append}
use Rattle.std.proofs.lemmas.Grind.{flat_map-append}
use Rattle.ground_numbers.specs.declared.named.Named.{Named}
use Rattle.ground_numbers.specs.Numbers.{same, with_seen}
use Rattle.ground_seen.specs.declared.tables.Tables.{Tables}
use Rattle.ground_seen.specs.Seen.{seen, Sees}

pub seen_both : (old mid new a b : List Named) → mid ≡ seen old a → new ≡ seen mid b → new ≡ seen old (a ++ b)
seen_both old mid new a b e f = f ∙ ap (λ l. seen l b) e ∙ sym (fold-append (with_seen same) old a b)

end : (xs : List Named) → xs ++ [] ≡ xs
end [] = refl
end (x ∷ xs) = ap (λ l. x ∷ l) (end xs)

module _ {A : Type 0} (f : A → List Named) (xs : List A) where
  more_taken : (i : ℕ) (x : A) → i < length xs → x ≡ get_or xs i x → flat_map f (take (i + 1) xs) ≡ flat_map f (take i xs) ++ f x
  more_taken i x within is =
      ap (flat_map f) (take_more xs i x within) ∙ flat_map-append f (take i xs) (get_or xs i x ∷ [])
      ∙ ap (λ l. flat_map f (take i xs) ++ l) (end (f (get_or xs i x)) ∙ ap f (sym is))

  pub seen_more : (old mid new : List Named) (i : ℕ) (x : A) → i < length xs → x ≡ get_or xs i x → mid ≡ seen old (flat_map f (take i xs)) → new ≡ seen mid (f x) → new ≡ seen old (flat_map f (take (i + 1) xs))
  seen_more old mid new i x within is e h = seen_both old mid new (flat_map f (take i xs)) (f x) e h ∙ ap (seen old) (sym (more_taken i x within is))

  pub seen_whole : (old new : List Named) (i : ℕ) → length xs ≤ i → new ≡ seen old (flat_map f (take i xs)) → new ≡ seen old (flat_map f xs)
  seen_whole old new i long e = e ∙ ap (λ l. seen old (flat_map f l)) (take_all i xs long)

pub sees_both : (old mid new : Tables) (a b c d : List Named) → Sees old mid a b → Sees mid new c d → Sees old new (a ++ c) (b ++ d)
sees_both old mid new a b c d s t = record {
  atoms = seen_both old.atoms mid.atoms new.atoms a c s.atoms t.atoms;
  funcs = seen_both old.funcs mid.funcs new.funcs b d s.funcs t.funcs;
}

module _ {A : Type 0} (f g : A → List Named) (xs : List A) where
  pub sees_more : (old mid new : Tables) (i : ℕ) (x : A) → i < length xs → x ≡ get_or xs i x → Sees old mid (flat_map f (take i xs)) (flat_map g (take i xs)) → Sees mid new (f x) (g x)
      → Sees old new (flat_map f (take (i + 1) xs)) (flat_map g (take (i + 1) xs))
  sees_more old mid new i x within is s t = record {
    atoms = seen_more f xs old.atoms mid.atoms new.atoms i x within is s.atoms t.atoms;
    funcs = seen_more g xs old.funcs mid.funcs new.funcs i x within is s.funcs t.funcs;
  }

  pub sees_whole : (old new : Tables) (i : ℕ) → length xs ≤ i → Sees old new (flat_map f (take i xs)) (flat_map g (take i xs)) → Sees old new (flat_map f xs) (flat_map g xs)
  sees_whole old new i long s = record {
    atoms = seen_whole f xs old.atoms new.atoms i long s.atoms;
    funcs = seen_whole g xs old.funcs new.funcs i long s.funcs;
  }
