-- The nodes and weights of `gauss_legendre` for orders 1 to 16 as bit patterns of doubles, printed once from the reference build: order by order the nodes,
-- ascending, then the weights. Definitions only.
use Rattle.std.specs.Prelude.{List, [], ◌∷◌, ℕ}

unfoldable pub table : List ℕ
table =
    -- order 1, nodes
    0x0000_0000_0000_0000 ∷
    -- order 1, weights
    0x4000_0000_0000_0000 ∷
    -- order 2, nodes
    0xbfe2_79a7_4590_331c ∷ 0x3fe2_79a7_4590_331c ∷
    -- order 2, weights
    0x3ff0_0000_0000_0001 ∷ 0x3ff0_0000_0000_0001 ∷
    -- order 3, nodes
    0xbfe8_c97e_f43f_7248 ∷ 0x0000_0000_0000_0000 ∷ 0x3fe8_c97e_f43f_7248 ∷
    -- order 3, weights
    0x3fe1_c71c_71c7_1c6f ∷ 0x3fec_71c7_1c71_c71c ∷ 0x3fe1_c71c_71c7_1c6f ∷
    -- order 4, nodes
    0xbfeb_8e6d_bcf6_3985 ∷ 0xbfd5_c23f_d9dd_3dfd ∷ 0x3fd5_c23f_d9dd_3dfd ∷ 0x3feb_8e6d_bcf6_3985 ∷
    -- order 4, weights
    0x3fd6_4340_f7e7_b669 ∷ 0x3fe4_de5f_840c_24cd ∷ 0x3fe4_de5f_840c_24cd ∷ 0x3fd6_4340_f7e7_b669 ∷
    -- order 5, nodes
    0xbfec_ff6c_e053_3a69 ∷ 0xbfe1_3b23_fd99_b705 ∷ 0x0000_0000_0000_0000 ∷ 0x3fe1_3b23_fd99_b705 ∷
    0x3fec_ff6c_e053_3a69 ∷
    -- order 5, weights
    0x3fce_539e_c36e_0389 ∷ 0x3fde_a1da_25ae_415b ∷ 0x3fe2_3456_789a_bcdf ∷ 0x3fde_a1da_25ae_415b ∷
    0x3fce_539e_c36e_0389 ∷
    -- order 6, nodes
    0xbfed_d6ca_4e80_a01e ∷ 0xbfe5_28a0_9655_c95f ∷ 0xbfce_8b12_d036_75c6 ∷ 0x3fce_8b12_d036_75c6 ∷
    0x3fe5_28a0_9655_c95f ∷ 0x3fed_d6ca_4e80_a01e ∷
    -- order 6, weights
    0x3fc5_edf6_01e2_dbfd ∷ 0x3fd7_16b7_b579_4c1c ∷ 0x3fdd_f24d_4995_45ec ∷ 0x3fdd_f24d_4995_45ec ∷
    0x3fd7_16b7_b579_4c1c ∷ 0x3fc5_edf6_01e2_dbfd ∷
    -- order 7, nodes
    0xbfee_5f17_8e7c_6229 ∷ 0xbfe7_ba9f_9be3_a1d6 ∷ 0xbfd9_f95d_f119_fd62 ∷ 0x0000_0000_0000_0000 ∷
    0x3fd9_f95d_f119_fd62 ∷ 0x3fe7_ba9f_9be3_a1d6 ∷ 0x3fee_5f17_8e7c_6229 ∷
    -- order 7, weights
    0x3fc0_92f6_9f82_6d56 ∷ 0x3fd1_e6b1_713d_8645 ∷ 0x3fd8_6fe7_4ee3_2b3f ∷ 0x3fda_bfd7_e03c_2fa6 ∷
    0x3fd8_6fe7_4ee3_2b3f ∷ 0x3fd1_e6b1_713d_8645 ∷ 0x3fc0_92f6_9f82_6d56 ∷
    -- order 8, nodes
    0xbfee_bab1_cb0a_cc67 ∷ 0xbfe9_7e4a_b249_f41f ∷ 0xbfe0_d129_5832_84b4 ∷ 0xbfc7_7ac9_4f3c_7344 ∷
    0x3fc7_7ac9_4f3c_7344 ∷ 0x3fe0_d129_5832_84b4 ∷ 0x3fe9_7e4a_b249_f41f ∷ 0x3fee_bab1_cb0a_cc67 ∷
    -- order 8, weights
    0x3fb9_ea1d_04ca_039a ∷ 0x3fcc_76fb_531d_2b95 ∷ 0x3fd4_13c5_0a25_5617 ∷ 0x3fd7_3636_0b19_9343 ∷
    0x3fd7_3636_0b19_9343 ∷ 0x3fd4_13c5_0a25_5617 ∷ 0x3fcc_76fb_531d_2b95 ∷ 0x3fb9_ea1d_04ca_039a ∷
    -- order 9, nodes
    0xbfee_fb2b_2ebf_2106 ∷ 0xbfea_c0c4_4f0d_0299 ∷ 0xbfe3_a0bd_2077_fd8d ∷ 0xbfd4_c091_6e48_aa66 ∷
    0x0000_0000_0000_0000 ∷ 0x3fd4_c091_6e48_aa66 ∷ 0x3fe3_a0bd_2077_fd8d ∷ 0x3fea_c0c4_4f0d_0299 ∷
    0x3fee_fb2b_2ebf_2106 ∷
    -- order 9, weights
    0x3fb4_ce65_f803_ef08 ∷ 0x3fc7_1f7a_9b22_2bf0 ∷ 0x3fd0_add8_7c82_7508 ∷ 0x3fd3_fd7e_9838_d513 ∷
    0x3fd5_22a4_3f65_486a ∷ 0x3fd3_fd7e_9838_d513 ∷ 0x3fd0_add8_7c82_7508 ∷ 0x3fc7_1f7a_9b22_2bf0 ∷
    0x3fb4_ce65_f803_ef08 ∷
    -- order 10, nodes
    0xbfef_2a3e_062a_f2d7 ∷ 0xbfeb_ae99_5e9c_b2f3 ∷ 0xbfe5_bdb9_228d_e198 ∷ 0xbfdb_bcc0_0901_6adb ∷
    0xbfc3_0e50_7891_e27a ∷ 0x3fc3_0e50_7891_e27a ∷ 0x3fdb_bcc0_0901_6adb ∷ 0x3fe5_bdb9_228d_e198 ∷
    0x3feb_ae99_5e9c_b2f3 ∷ 0x3fef_2a3e_062a_f2d7 ∷
    -- order 10, weights
    0x3fb1_115f_8b62_dc02 ∷ 0x3fc3_2138_c878_efe3 ∷ 0x3fcc_0b05_9d00_bc36 ∷ 0x3fd1_3baa_7a55_9bfc ∷
    0x3fd2_e9de_7014_d6f0 ∷ 0x3fd2_e9de_7014_d6f0 ∷ 0x3fd1_3baa_7a55_9bfc ∷ 0x3fcc_0b05_9d00_bc36 ∷
    0x3fc3_2138_c878_efe3 ∷ 0x3fb1_115f_8b62_dc02 ∷
    -- order 11, nodes
    0xbfef_4da6_2fd7_e9b5 ∷ 0xbfec_62d1_1af0_4753 ∷ 0xbfe7_5d67_bd21_944a ∷ 0xbfe0_9c6f_7c4d_8ce1 ∷
    0xbfd1_4031_efeb_42c1 ∷ 0x0000_0000_0000_0000 ∷ 0x3fd1_4031_efeb_42c1 ∷ 0x3fe0_9c6f_7c4d_8ce1 ∷
    0x3fe7_5d67_bd21_944a ∷ 0x3fec_62d1_1af0_4753 ∷ 0x3fef_4da6_2fd7_e9b5 ∷
    -- order 11, weights
    0x3fac_8097_265b_b913 ∷ 0x3fc0_1304_7def_88d1 ∷ 0x3fc7_d85b_8dbf_f199 ∷ 0x3fcd_d94b_1446_e055 ∷
    0x3fd0_d1ca_26fa_590e ∷ 0x3fd1_779a_c87e_04d6 ∷ 0x3fd0_d1ca_26fa_590e ∷ 0x3fcd_d94b_1446_e055 ∷
    0x3fc7_d85b_8dbf_f199 ∷ 0x3fc0_1304_7def_88d1 ∷ 0x3fac_8097_265b_b913 ∷
    -- order 12, nodes
    0xbfef_68f1_d8e4_2e81 ∷ 0xbfec_ee87_4ffb_88b3 ∷ 0xbfe8_a30a_eed8_8f36 ∷ 0xbfe2_cb4f_05c0_77f9 ∷
    0xbfd7_8a8d_20a8_b19d ∷ 0xbfc0_07a5_f8f6_30e5 ∷ 0x3fc0_07a5_f8f6_30e5 ∷ 0x3fd7_8a8d_20a8_b19d ∷
    0x3fe2_cb4f_05c0_77f9 ∷ 0x3fe8_a30a_eed8_8f36 ∷ 0x3fec_ee87_4ffb_88b3 ∷ 0x3fef_68f1_d8e4_2e81 ∷
    -- order 12, weights
    0x3fa8_275d_9dea_6d90 ∷ 0x3fbb_6060_2bce_616f ∷ 0x3fc4_7d72_58f2_2d93 ∷ 0x3fca_0163_e6b1_ab6f ∷
    0x3fcd_e315_5c25_6ab4 ∷ 0x3fcf_e40c_e6d4_f029 ∷ 0x3fcf_e40c_e6d4_f029 ∷ 0x3fcd_e315_5c25_6ab4 ∷
    0x3fca_0163_e6b1_ab6f ∷ 0x3fc4_7d72_58f2_2d93 ∷ 0x3fbb_6060_2bce_616f ∷ 0x3fa8_275d_9dea_6d90 ∷
    -- order 13, nodes
    0xbfef_7e6d_7629_661c ∷ 0xbfed_5cf7_5170_c9df ∷ 0xbfe9_a687_189c_7850 ∷ 0xbfe4_8e20_33b0_1c61 ∷
    0xbfdc_b41a_f08c_747a ∷ 0xbfcd_7fa8_790f_2c49 ∷ 0x0000_0000_0000_0000 ∷ 0x3fcd_7fa8_790f_2c49 ∷
    0x3fdc_b41a_f08c_747a ∷ 0x3fe4_8e20_33b0_1c61 ∷ 0x3fe9_a687_189c_7850 ∷ 0x3fed_5cf7_5170_c9df ∷
    0x3fef_7e6d_7629_661c ∷
    -- order 13, weights
    0x3fa4_ba51_c8f4_ceb6 ∷ 0x3fb7_9546_4d0f_bf4c ∷ 0x3fc1_c69b_7056_5cd3 ∷ 0x3fc6_cd7c_cca4_a8d1 ∷
    0x3fca_99b7_5be0_a11f ∷ 0x3fcc_f6d8_e56e_9813 ∷ 0x3fcd_c43f_d1e1_5b8e ∷ 0x3fcc_f6d8_e56e_9813 ∷
    0x3fca_99b7_5be0_a11f ∷ 0x3fc6_cd7c_cca4_a8d1 ∷ 0x3fc1_c69b_7056_5cd3 ∷ 0x3fb7_9546_4d0f_bf4c ∷
    0x3fa4_ba51_c8f4_ceb6 ∷
    -- order 14, nodes
    0xbfef_8fa3_0fdd_ab0b ∷ 0xbfed_b5bd_12b9_9ea0 ∷ 0xbfea_786e_e46d_d9c4 ∷ 0xbfe5_fe4d_b09e_0c89 ∷
    0xbfe0_7cea_b54e_f096 ∷ 0xbfd4_6c56_4912_d702 ∷ 0xbfbb_a97d_36de_76af ∷ 0x3fbb_a97d_36de_76af ∷
    0x3fd4_6c56_4912_d702 ∷ 0x3fe0_7cea_b54e_f096 ∷ 0x3fe5_fe4d_b09e_0c89 ∷ 0x3fea_786e_e46d_d9c4 ∷
    0x3fed_b5bd_12b9_9ea0 ∷ 0x3fef_8fa3_0fdd_ab0b ∷
    -- order 14, weights
    0x3fa1_fb2d_8b27_f566 ∷ 0x3fb4_853d_8adc_7049 ∷ 0x3fbf_1bd7_4ef6_11bc ∷ 0x3fc4_1f3b_bee2_d2f4 ∷
    0x3fc7_bfb8_e2a8_f57f ∷ 0x3fca_43f1_796f_ab05 ∷ 0x3fcb_8dc4_1551_4e33 ∷ 0x3fcb_8dc4_1551_4e33 ∷
    0x3fca_43f1_796f_ab05 ∷ 0x3fc7_bfb8_e2a8_f57f ∷ 0x3fc4_1f3b_bee2_d2f4 ∷ 0x3fbf_1bd7_4ef6_11bc ∷
    0x3fb4_853d_8adc_7049 ∷ 0x3fa1_fb2d_8b27_f566 ∷
    -- order 15, nodes
    0xbfef_9da2_7c32_e6d0 ∷ 0xbfed_fe24_c4f8_b448 ∷ 0xbfeb_2482_21ff_fd63 ∷ 0xbfe7_2e6e_181a_b3c4 ∷
    0xbfe2_4567_6f08_f3a4 ∷ 0xbfd9_39c6_9257_d6b6 ∷ 0xbfc9_c0ba_62ef_04b5 ∷ 0x0000_0000_0000_0000 ∷
    0x3fc9_c0ba_62ef_04b5 ∷ 0x3fd9_39c6_9257_d6b6 ∷ 0x3fe2_4567_6f08_f3a4 ∷ 0x3fe7_2e6e_181a_b3c4 ∷
    0x3feb_2482_21ff_fd63 ∷ 0x3fed_fe24_c4f8_b448 ∷ 0x3fef_9da2_7c32_e6d0 ∷
    -- order 15, weights
    0x3f9f_7dc7_227a_295c ∷ 0x3fb2_0382_60b5_d027 ∷ 0x3fbb_6ec9_635f_114d ∷ 0x3fc1_dd73_b496_315f ∷
    0x3fc5_484f_30a8_6ed3 ∷ 0x3fc7_d41f_a76d_c263 ∷ 0x3fc9_6633_f1fd_02cf ∷ 0x3fc9_ee15_75f9_c980 ∷
    0x3fc9_6633_f1fd_02cf ∷ 0x3fc7_d41f_a76d_c263 ∷ 0x3fc5_484f_30a8_6ed3 ∷ 0x3fc1_dd73_b496_315f ∷
    0x3fbb_6ec9_635f_114d ∷ 0x3fb2_0382_60b5_d027 ∷ 0x3f9f_7dc7_227a_295c ∷
    -- order 16, nodes
    0xbfef_a92c_264d_787e ∷ 0xbfee_39f5_6616_f9b0 ∷ 0xbfeb_b340_3514_e483 ∷ 0xbfe8_2c45_dda4_726b ∷
    0xbfe3_c5a4_66d5_e8b8 ∷ 0xbfdd_5025_9a43_a772 ∷ 0xbfd2_05ca_e642_337c ∷ 0xbfb8_52bd_6676_a9f9 ∷
    0x3fb8_52bd_6676_a9f9 ∷ 0x3fd2_05ca_e642_337c ∷ 0x3fdd_5025_9a43_a772 ∷ 0x3fe3_c5a4_66d5_e8b8 ∷
    0x3fe8_2c45_dda4_726b ∷ 0x3feb_b340_3514_e483 ∷ 0x3fee_39f5_6616_f9b0 ∷ 0x3fef_a92c_264d_787e ∷
    -- order 16, weights
    0x3f9b_cdda_b4b7_c206 ∷ 0x3faf_dfb1_a2c1_264c ∷ 0x3fb8_5c4e_e79c_c260 ∷ 0x3fbf_e7af_2bad_386f ∷
    0x3fc3_25f6_1bca_3cc2 ∷ 0x3fc5_a6eb_bb5a_75fd ∷ 0x3fc7_5f8c_77e0_c010 ∷ 0x3fc8_3fea_e80e_4dfb ∷
    0x3fc8_3fea_e80e_4dfb ∷ 0x3fc7_5f8c_77e0_c010 ∷ 0x3fc5_a6eb_bb5a_75fd ∷ 0x3fc3_25f6_1bca_3cc2 ∷
    0x3fbf_e7af_2bad_386f ∷ 0x3fb8_5c4e_e79c_c260 ∷ 0x3faf_dfb1_a2c1_264c ∷ 0x3f9b_cdda_b4b7_c206 ∷
    []
