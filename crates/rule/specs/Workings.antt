-- What the proofs work with, and no statement speaks of: the law of conditions, bounds as the one form of every condition, cover as bounds,
-- and chains of steps over bounds. Who believes the files beside this folder need not read it.
pub mod Law
pub mod Bounds
pub mod Cover
pub mod Chain
