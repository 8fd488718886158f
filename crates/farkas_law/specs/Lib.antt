pub mod Lemma
