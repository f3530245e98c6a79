pub mod Recvs
