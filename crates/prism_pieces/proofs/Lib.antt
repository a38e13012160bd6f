-- For the proofs here: the orders of an affordable cubature (Orders), and a constant (MinusLnEpsilon).
mod Orders
mod MinusLnEpsilon
