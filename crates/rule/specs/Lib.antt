-- What a reader has to believe stands first, from the plain to the composed: sets of payments, a payment, a queue, the house, the largest
-- set computed, the verdict, a day, the paper's rows. Then the table and the lists that hold queues, and whole numbers in two parts.
pub mod Kernel
pub mod Payment
pub mod Queue
pub mod House
pub mod Resolution
pub mod Verdict
pub mod Day
pub mod Situations
pub mod Paper
pub mod Table
pub mod Lists
pub mod Ints
-- What only the proofs use.
pub mod Workings
