-- K(m) and E(m), the public call of cel, and the ring.
pub mod Constants
pub mod Elliptic
pub mod Cel
pub mod Ring
