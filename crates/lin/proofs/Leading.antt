-- A run of operations on its way: all so far fit, and the others are still to be made.
use Rattle.std.proofs.Common.{◌≡◌, List, [], ◌∷◌, ◌++◌, refl, sym, ap, subst, ◌∙◌, append_assoc}
use Rattle.std.proofs.lemmas.List.{append-nil}
use Rattle.frac128.specs.Operations.{Fits, Passes}
use Rattle.frac128.specs.declared.operations.Wide.{Wide}
use Rattle.lin.specs.declared.failure.LinFail.{LinFail}
use Rattle.lin.specs.declared.failure.LinFail.TheVariants as fail
use Rattle.lin.specs.Operations.{AllFit, IsFirstPassing, IsRefusal}

-- what is left of the operations `all`
pub record IsLeft (rest all : List Wide) : Type 0 where
  pub front : List Wide
  pub place : all ≡ front ++ rest
  pub fit : AllFit front

fit-append : (os ps : List Wide) → AllFit os → AllFit ps → AllFit (os ++ ps)
fit-append [] ps h g = g
fit-append (o ∷ os) ps h g = (h.0, fit-append os ps h.1 g)

-- at the start all are left
pub left-start : (all : List Wide) → IsLeft all all
left-start all = record { front = []; place = refl; fit = tt }

-- the next operation fits
pub left-fits : (o : Wide) (rest all : List Wide) → IsLeft (o ∷ rest) all → Fits o.op o.x o.y → IsLeft rest all
left-fits o rest all h f = record {
  front = h.front ++ o ∷ [];
  place = h.place ∙ sym (append_assoc h.front (o ∷ []) rest);
  fit = fit-append h.front (o ∷ []) h.fit (f, tt);
}

-- the next operations all fit
pub left-all_fit : (os rest all : List Wide) → IsLeft (os ++ rest) all → AllFit os → IsLeft rest all
left-all_fit os rest all h f = record {
  front = h.front ++ os;
  place = h.place ∙ sym (append_assoc h.front os rest);
  fit = fit-append h.front os h.fit f;
}

-- none is left
pub left-none : (all : List Wide) → IsLeft [] all → AllFit all
left-none all h = subst AllFit (sym (h.place ∙ append-nil h.front)) h.fit

-- the next operation passes
pub left-passes : (w : Wide) (rest all : List Wide) → IsLeft (w ∷ rest) all → Passes w.op w.x w.y → IsFirstPassing w all
left-passes w rest all h p = record { front = h.front; behind = rest; place = h.place; fit = h.fit; passes = p }

-- the first of the next operations that passes
pub left-first : (w : Wide) (os rest all : List Wide) → IsLeft (os ++ rest) all → IsFirstPassing w os → IsFirstPassing w all
left-first w os rest all h f = record {
  front = h.front ++ f.front;
  behind = f.behind ++ rest;
  place = h.place ∙ ap (λ (ps : List Wide). h.front ++ (ps ++ rest)) f.place ∙ ap (λ (ps : List Wide). h.front ++ ps) (append_assoc f.front (w ∷ f.behind) rest)
      ∙ sym (append_assoc h.front f.front (w ∷ (f.behind ++ rest)));
  fit = fit-append h.front f.front h.fit f.fit;
  passes = f.passes;
}

-- a refusal of a part of the operations is one of all
pub refused_more : (os ps : List Wide) (e : LinFail) → ((w : Wide) → IsFirstPassing w os → IsFirstPassing w ps) → IsRefusal os e → IsRefusal ps e
refused_more os ps (fail.Wide w) f h = f w h
refused_more os ps fail.Memory f h = tt
